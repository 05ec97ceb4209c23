use Rattle.dps_static.proofs.Carried.{AreValuesFirst}
use Rattle.dps_static.proofs.carry.carry.Given as goal

abbrev pub invariant-loop-recipe : goal.invariant-loop-recipe
invariant-loop-recipe l = AreValuesFirst l.theory l.frame l.recipes l.values.items l.recipe-index
