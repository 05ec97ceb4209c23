use Rattle.dps_recipes.proofs.Trying.{Tried}
use Rattle.dps_recipes.proofs.reduction.reduct.Given as goal

abbrev pub invariant-loop-place : goal.invariant-loop-place
invariant-loop-place l = Tried l.rules l.places l.term l.place-index
