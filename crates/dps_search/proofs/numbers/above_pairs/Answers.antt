use Rattle.std.proofs.Common.{max, arith}
use Rattle.std.specs.List.{flat_map}
use Rattle.dps_terms.specs.Variables.{occurrences}
use Rattle.dps_solver.specs.Search.{least_above}
use Rattle.dps_search.specs.Numbers.{pair_numbers}
use Rattle.dps_search.proofs.Above.{above_next, above_append}
use Rattle.dps_search.proofs.numbers.above_pairs.Goals as goal

pub loop-pair-preserved : goal.loop-pair-preserved
loop-pair-preserved c =
    let p = c.pair-item.result in
    above_next pair_numbers c.args.pairs.now c.loop-pair.pair-index p c.loop-pair.above c.in_ok-above.above
    (max c.args.next (least_above (flat_map pair_numbers c.args.pairs.now))) c.loop-pair-test.true c.pair-item.is c.loop-pair.invariant
    (omega (arith, above_append (occurrences p.0) (occurrences p.1), c.in_ok-left.ensures, c.in_ok-above.ensures))
