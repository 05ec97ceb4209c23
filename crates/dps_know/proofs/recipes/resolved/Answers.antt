use Rattle.std.proofs.Common.{◌∙◌}
use Rattle.dps_terms.specs.Replace.{put_entries}
use Rattle.dps_know.proofs.Resolved.{resolved_more}
use Rattle.dps_know.proofs.recipes.resolved.Goals as goal

pub loop-entry-preserved : goal.loop-entry-preserved
loop-entry-preserved c =
    resolved_more c.args.entries.now c.loop-entry.recipes.items c.push.new.self.items c.loop-entry.entry-index c.entry-item.result c.in_ok-recipe.recipe
    c.loop-entry-test.true c.entry-item.is
    (c.in_ok-recipe.ensures ∙ (λ i. put_entries (c.deref.ensures.value i) (c.whole.ensures i)))
    c.in_ok-push.ensures.items
    ∙ c.loop-entry.invariant
