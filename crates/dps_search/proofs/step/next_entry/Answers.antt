use Rattle.std.proofs.Common.{◌∙◌, arith}
use Rattle.dps_search.proofs.Options.{level_at, next_skipped}
use Rattle.dps_search.proofs.step.next_entry.Goals as goal

pub loop-place-preserved : goal.loop-place-preserved
loop-place-preserved c =
    let e = level_at c.args.know.now c.loop-place.place c.level.result c.level.ensures in
    c.loop-place.invariant ∙ next_skipped c.args.know.now.entries c.args.level c.loop-place.place e.0 e.1 (omega (arith, e.2, c.if-level.false))
