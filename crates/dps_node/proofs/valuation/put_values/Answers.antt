use Rattle.std.proofs.Common.{◌++◌, take}
use Rattle.dps_terms.specs.Bindings.{image}
use Rattle.dps_solver.specs.Solutions.{valued}
use Rattle.dps_renewal.proofs.Puts.{put_next}
use Rattle.dps_node.proofs.valuation.put_values.Goals as goal

pub loop-variable-preserved : goal.loop-variable-preserved
loop-variable-preserved c = λ xs h.
    let vs = c.args.variables.now in
    let i = c.loop-variable.variable-index in
    put_next (valued c.args.values.now (image c.args.by.now)) xs vs i 0 c.put_value.new.valued c.loop-variable-test.true
    (c.in_ok-put_value.ensures (xs ++ take i vs) (c.loop-variable.invariant xs h))
