-- How a solution goes on from a branch that it goes with.
use Rattle.std.specs.Prelude.{◌≡◌, ℕ, List, [], ◌∷◌, Contains}
use Rattle.dps_terms.specs.Tree.{Tree}
use Rattle.dps_terms.specs.Replace.{substitute}
use Rattle.dps_unify.specs.Unifier.{IsNotUnifiable}
use Rattle.dps_solver.specs.Scene.{Scene, Ask}
use Rattle.dps_solver.specs.declared.scene.Target.{Target}
use Rattle.dps_solver.specs.Solutions.{Respects}
use Rattle.dps_solver.specs.Search.{Branch, Way, use_entry, ways, entry_equation, Leads, bindings_of}
use Rattle.dps_directions.specs.Valid.{IsValid, Fits}
use Rattle.dps_directions.proofs.Invariant.{IsKept}
use Rattle.dps_directions.proofs.Course.{Course, GoesWith, GoesAlong}

-- one of the branch's ways, which can be gone, and wherever it leads the solution goes along
pub record NextWay (names : ℕ → Type 0) (scene : Scene) (ask : Ask) (course : Course names scene ask) (b : Branch) (z : Target) (rest : List Target) : Type 0 where
  pub way : Way
  pub among : Contains (ways scene.system z.level (substitute b.theta z.term)) way
  pub usable : (i : ℕ) → way ≡ use_entry i → ¬ IsNotUnifiable (entry_equation scene b z i)
  pub goes : (c : Branch) → Leads scene b z rest way c → GoesAlong names scene ask course c

abbrev pub GoesOn : (ℕ → Type 0) → Scene → Ask → Type 0
GoesOn names scene ask =
    (course : Course names scene ask) (b : Branch) (z : Target) (rest : List Target) (eta psi : ℕ → Tree)
    → IsValid names scene → Fits scene ask → IsKept scene ask b → b.targets ≡ z ∷ rest
    → GoesWith names scene ask course b eta psi
    → NextWay names scene ask course b z rest

-- a branch that a solution goes with to the end is not dropped
abbrev pub EndsRespect : (ℕ → Type 0) → Scene → Ask → Type 0
EndsRespect names scene ask =
    (course : Course names scene ask) (b : Branch) (eta psi : ℕ → Tree)
    → IsValid names scene → Fits scene ask → IsKept scene ask b
    → GoesWith names scene ask course b eta psi → b.targets ≡ []
    → Respects scene.system (bindings_of scene b)
