-- What the solver is given.
use Rattle.std.specs.Prelude.{ℕ, zero, suc, List, Option, None, slice_get}
use Rattle.dps_terms.specs.Tree.{Tree}
use Rattle.dps_know.specs.Know.{Knowledge}
use Rattle.dps_solver.specs.declared.scene.Target.{Target}

-- No choice of trees for the free variables makes the two of each pair, a tree and a pattern, equal.
pub record Disequation : Type 0 where
  pub free : List ℕ
  pub pairs : List (Tree × Tree)

-- A constraint system on the attacker's trees: the length m of the frame, the variables with their levels, the knowledge,
-- the trees of the input labels, and the disequations.
pub record System : Type 0 where
  pub m : ℕ
  pub levels : List (ℕ × ℕ)
  pub know : Knowledge
  pub labels : List Tree
  pub disequations : List Disequation

-- a constraint system with the values of the entries in one configuration
pub record Scene : Type 0 where
  pub system : System
  pub values : List Tree

-- the value of the entry with this number, counted from 1
abbrev pub value_at : Scene → ℕ → Option Tree
value_at scene zero = None
value_at scene (suc k) = slice_get scene.values k

-- equations between terms, which may hold variables of rules besides those of the scene, and targets
pub record Ask : Type 0 where
  pub equations : List (Tree × Tree)
  pub targets : List Target
