-- What listed solutions are made of: nothing but what the scene and the ask are made of.
use Rattle.std.specs.Prelude.{ℕ, Contains}
use Rattle.dps_terms.specs.Tree.{rigid, Tree, StandsIn}
use Rattle.dps_signature.specs.Signature.{Signature}
use Rattle.dps_terms.specs.Kinds.{NoRigidName}
use Rattle.dps_signature.specs.Kinds.{IsOver}
use Rattle.dps_solver.specs.Scene.{Scene, Ask}
use Rattle.dps_solver.specs.declared.scene.Target.{Target}
use Rattle.dps_solver.specs.Search.{GeneralSolution}
use Rattle.dps_directions.specs.Directions.{HoldsRigidNamesOf}
use Rattle.dps_directions.specs.Shapes.{IsListedFor}

-- each value of an entry and each term of the ask is such
pub record AreGiven (P : Tree → Type 0) (scene : Scene) (ask : Ask) : Type 0 where
  pub values : (v : Tree) → Contains scene.values v → P v
  pub equations : (p : Tree × Tree) → Contains ask.equations p → P p.0 × P p.1
  pub targets : (z : Target) → Contains ask.targets z → P z.term

-- each answer is such, and each term that is put for a variable in values
pub record AreListed (P : Tree → Type 0) (solution : GeneralSolution) : Type 0 where
  pub answers : (t : Tree) → Contains solution.answers t → P t
  pub theta : (x : ℕ) → P (solution.theta x)

abbrev pub HoldsNoRigidName : Tree → Type 0
HoldsNoRigidName t = (k : ℕ) → ¬ StandsIn (rigid k) t

-- Where the values of entries and the ask hold no rigid name, no listed solution does.
abbrev pub NoneAreRigid : (ℕ → Type 0) → Scene → Ask → Type 0
NoneAreRigid names scene ask =
    (solution : GeneralSolution) → IsListedFor names scene ask solution → AreGiven HoldsNoRigidName scene ask
    → HoldsRigidNamesOf NoRigidName scene solution × AreListed HoldsNoRigidName solution

-- Where they are over a signature, so is each listed solution.
abbrev pub AllAreOver : (ℕ → Type 0) → Scene → Ask → Type 0
AllAreOver names scene ask =
    (signature : Signature) (solution : GeneralSolution) → IsListedFor names scene ask solution → AreGiven (IsOver signature) scene ask
    → ((x : ℕ) → IsOver signature (solution.bindings x)) × AreListed (IsOver signature) solution
