use Rattle.std.proofs.Common.{max}
use Rattle.std.specs.List.{flat_map}
use Rattle.dps_terms.specs.Variables.{occurrences}
use Rattle.dps_solver.specs.Search.{least_above}
use Rattle.dps_search.proofs.Above.{above_next}
use Rattle.dps_search.proofs.numbers.above_terms.Goals as goal

pub loop-term-preserved : goal.loop-term-preserved
loop-term-preserved c =
    above_next occurrences c.args.terms.now c.loop-term.term-index c.term-item.result c.loop-term.above c.in_ok-above.above
    (max c.args.next (least_above (flat_map occurrences c.args.terms.now))) c.loop-term-test.true c.term-item.is c.loop-term.invariant c.in_ok-above.ensures
