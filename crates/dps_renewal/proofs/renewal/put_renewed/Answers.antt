use Rattle.std.proofs.Common.{◌++◌, take}
use Rattle.dps_terms.specs.Bindings.{image}
use Rattle.dps_renewal.specs.Putting.{renewed}
use Rattle.dps_renewal.proofs.Puts.{put_next}
use Rattle.dps_renewal.proofs.renewal.put_renewed.Goals as goal

pub loop-variable-preserved : goal.loop-variable-preserved
loop-variable-preserved c = λ xs h.
    let z = renewed c.args.numbers.now.first c.args.numbers.now.fresh.now.keys (image c.args.bindings.now) in
    let vs = c.args.variables.now in
    let i = c.loop-variable.variable-index in
    put_next z xs vs i 0 c.put.new.by c.loop-variable-test.true (c.in_ok-put.ensures z (xs ++ take i vs) c.in_ok-tree.ensures (c.loop-variable.invariant xs h))
