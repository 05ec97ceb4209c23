use Rattle.std.proofs.Common.{length}
use Rattle.dps_static.proofs.AskingARule.{IsAsking}
use Rattle.dps_static.proofs.saturation.use_rule.Given as goal

abbrev pub invariant-loop-by : goal.invariant-loop-by
invariant-loop-by l =
    IsAsking l.theory l.rule l.asked.trees l.more l.fn.knowledge.recipes.items l.fn.knowledge.kept l.fn.knowledge.uses.items l.knowledge.recipes.items l.knowledge.kept l.knowledge.uses.items
    l.ways.items l.asked.waiting.items

abbrev pub decreases-loop-by : goal.decreases-loop-by
decreases-loop-by l = length l.ways.items
