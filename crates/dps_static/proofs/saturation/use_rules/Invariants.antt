use Rattle.dps_static.proofs.AskingAllRules.{AreAsking}
use Rattle.dps_static.proofs.saturation.use_rules.Given as goal

abbrev pub invariant-loop-place : goal.invariant-loop-place
invariant-loop-place l =
    AreAsking l.theory l.place l.more l.fn.knowledge.recipes.items l.fn.knowledge.kept l.fn.knowledge.uses.items l.knowledge.recipes.items l.knowledge.kept l.knowledge.uses.items l.asked.items
