use Rattle.std.specs.Prelude.{Contains}
use Rattle.dps_static.specs.Saturation.{AreKnown}
use Rattle.dps_static.specs.Ending.{absent, universe}
use Rattle.dps_static.specs.Asking.{AreAsked}
use Rattle.dps_static.specs.Uses.{IsUseOf}
use Rattle.dps_static.specs.declared.uses.RuleUse.{RuleUse}
use Rattle.dps_static.proofs.saturation.saturated.Given as goal

abbrev pub invariant-loop-asked : goal.invariant-loop-asked
invariant-loop-asked l = record {
  known : AreKnown l.theory l.frame l.knowledge.recipes.items l.knowledge.kept;
  asked : AreAsked l.theory.rules l.knowledge.kept l.knowledge.uses.items l.asked.items;
  each : (one : RuleUse) → Contains l.knowledge.uses.items one → IsUseOf l.theory l.knowledge.kept one;
}

abbrev pub decreases-loop-asked : goal.decreases-loop-asked
decreases-loop-asked l = absent (universe l.theory l.frame) l.knowledge.kept
