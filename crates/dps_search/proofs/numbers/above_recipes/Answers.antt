use Rattle.std.proofs.Common.{max, arith}
use Rattle.std.specs.List.{flat_map}
use Rattle.dps_solver.specs.Search.{least_above}
use Rattle.dps_solver.specs.Search.{entry_numbers}
use Rattle.dps_search.proofs.Above.{above_next}
use Rattle.dps_search.proofs.Options.{placed_at}
use Rattle.dps_search.proofs.numbers.above_recipes.Goals as goal

pub loop-place-preserved : goal.loop-place-preserved
loop-place-preserved c =
    let e = c.entry.result.now in
    above_next entry_numbers c.args.know.now.entries c.loop-place.place e c.loop-place.above c.in_ok-above.above
    (max c.args.next (least_above (flat_map entry_numbers c.args.know.now.entries))) (omega (arith, c.loop-place-test.true, c.entries-place-end.ensures))
    (placed_at c.args.know.now c.loop-place.place e c.entry.ensures) c.loop-place.invariant c.in_ok-above.ensures
