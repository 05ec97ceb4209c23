-- What a branch without targets gives.
use Rattle.std.specs.Prelude.{◌≡◌, Option, Some, None}
use Rattle.dps_solver.specs.Scene.{Scene, Ask}
use Rattle.dps_solver.specs.Solutions.{Respects}
use Rattle.dps_solver.specs.Search.{Branch, bindings_of, solution_of}
use Rattle.dps_search.specs.declared.scene.Mgs.{Mgs}
use Rattle.dps_search.specs.Code.{solution_seen}

-- its solution where this respects the scene, and nothing else
abbrev pub IsFinished : Scene → Ask → Branch → Option Mgs → Type 0
IsFinished scene ask b None = ¬ Respects scene.system (bindings_of scene b)
IsFinished scene ask b (Some g) = Respects scene.system (bindings_of scene b) × (solution_seen g ≡ solution_of scene ask b)
