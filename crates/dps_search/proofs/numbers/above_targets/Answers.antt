use Rattle.std.proofs.Common.{max, arith}
use Rattle.std.specs.List.{flat_map}
use Rattle.dps_solver.specs.Search.{least_above}
use Rattle.dps_search.specs.Numbers.{target_numbers}
use Rattle.dps_search.proofs.Above.{above_next}
use Rattle.dps_search.proofs.numbers.above_targets.Goals as goal

pub loop-target-preserved : goal.loop-target-preserved
loop-target-preserved c =
    above_next target_numbers c.args.targets.now c.loop-target.target-index c.target-item.result c.loop-target.above c.in_ok-above.above
    (max c.args.next (least_above (flat_map target_numbers c.args.targets.now))) c.loop-target-test.true c.target-item.is c.loop-target.invariant
    (omega (arith, c.in_ok-name.ensures, c.in_ok-above.ensures))
