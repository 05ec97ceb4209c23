use Rattle.std.proofs.Common.{◌≡◌, map, take}
use Rattle.dps_terms.specs.Bindings.{image}
use Rattle.dps_solver.specs.declared.scene.Target.{Target}
use Rattle.dps_search.proofs.finishing.answers.Given as goal

abbrev pub invariant-loop-target : goal.invariant-loop-target
invariant-loop-target l = l.answers.items ≡ map (λ (z : Target). image l.trees z.name) (take l.target-index l.targets)
