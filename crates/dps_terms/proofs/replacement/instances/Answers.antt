use Rattle.std.proofs.Common.{◌≡◌, ◌-◌, ◌+◌, ap, arith, length, drop}
use Rattle.dps_terms.specs.Cells.{forest}
use Rattle.dps_terms.specs.declared.cells.Cell.TheVariants.{Declared}
use Rattle.dps_terms.proofs.Instances.{fed_at, length-replace}
use Rattle.dps_terms.proofs.replacement.instances.Goals as goal

pub put_instance-requires-clause-few : goal.put_instance-requires-clause-few
put_instance-requires-clause-few g c =
    (fed_at c.args.cells.now (c.loop-left.left - 1) (Declared 0) (omega (arith, c.loop-left-test.true, c.loop-left.invariant.there)) c.requires.terms c.requires.narrow).few

pub put_instance-requires-clause-there : goal.put_instance-requires-clause-there
put_instance-requires-clause-there g c =
    let f = fed_at c.args.cells.now (c.loop-left.left - 1) (Declared 0) (omega (arith, c.loop-left-test.true, c.loop-left.invariant.there)) c.requires.terms c.requires.narrow in
    let back : (c.loop-left.left - 1) + 1 ≡ c.loop-left.left = omega (arith, c.loop-left-test.true) in
    let there = rw back at f.there in
    omega (arith, there, ap length c.loop-left.invariant.made, length-replace (g.R.Replacement.becomes c.args.by.now) (forest (drop c.loop-left.left c.args.cells.now)))
