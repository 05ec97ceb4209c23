-- What the values of entries need in order to be told by the trees of variables.
use Rattle.std.specs.Prelude.{◌≡◌, ◌<◌, ℕ, List, Some, None, length, map}
use Rattle.dps_terms.specs.Tree.{var, Tree, leaf, StandsIn}
use Rattle.dps_terms.specs.Replace.{substitute, put_entries}
use Rattle.dps_unify.specs.Order.{level_of}
use Rattle.dps_know.specs.Know.{entry_at}
use Rattle.dps_know.specs.declared.know.Entry.{Entry}
use Rattle.dps_solver.specs.Levels.{IsTreeUpTo, IsGroundUpTo}
use Rattle.dps_solver.specs.Scene.{System, Scene, value_at}
use Rattle.dps_solver.specs.Solutions.{IsChoice, valued, IsValuation}

-- an entry's value holds only variables of smaller level, and each entry has a value
pub record HaveOlderValues (scene : Scene) : Type 0 where
  pub older :
      (i : ℕ) (e : Entry) (v : Tree) → entry_at scene.system.know i ≡ Some e → value_at scene i ≡ Some v
      → (x : ℕ) → StandsIn (var x) v → (l : ℕ) × (level_of scene.system.levels x ≡ Some l) × (l < e.level)
  pub each_value : length scene.values ≡ length scene.system.know.entries

-- each variable of the system has a tree of at most its level, over variables with other levels
pub record AreTreesOver (names : ℕ → Type 0) (system : System) (levels : List (ℕ × ℕ)) (b : ℕ → Tree) : Type 0 where
  pub trees : (x l : ℕ) → level_of system.levels x ≡ Some l → IsTreeUpTo names system.m system.know levels l (b x)

-- There is exactly one valuation: of a choice, and of bindings too.
abbrev pub ValuationsAreOne : (ℕ → Type 0) → Scene → Type 0
ValuationsAreOne names scene =
    (levels : List (ℕ × ℕ)) (s : ℕ → Tree)
    → HaveOlderValues scene → AreTreesOver names scene.system levels s
    → (g : List Tree) × IsValuation scene s g × ((h : List Tree) → IsValuation scene s h → g ≡ h)

-- what the system's variables become by bindings b and then by a, and all others are left
pub record IsComposition (system : System) (b a s : ℕ → Tree) : Type 0 where
  pub variables : (x l : ℕ) → level_of system.levels x ≡ Some l → s x ≡ substitute a (b x)
  pub others : (x : ℕ) → level_of system.levels x ≡ None → s x ≡ leaf (var x)

-- Bindings b put into the trees of a scene, and their values into its values, leave a scene over other variables. A choice
-- a of that scene and the bindings are together a choice of the first, with the same valuation, and with the same values
-- of trees and of terms.
abbrev pub BindingsCommute : (ℕ → Type 0) → Scene → Type 0
BindingsCommute names scene =
    (levels : List (ℕ × ℕ)) (b a s : ℕ → Tree) (v g : List Tree)
    → HaveOlderValues scene → AreTreesOver names scene.system levels b → IsValuation scene b v
    → ((y k : ℕ) → level_of levels y ≡ Some k → IsGroundUpTo names scene.system.m scene.system.know k (a y))
    → g ≡ map (substitute (valued g a)) v → IsComposition scene.system b a s
    → IsChoice names scene.system s × IsValuation scene s g
    × ((t : Tree) → substitute (valued g a) (put_entries v t) ≡ put_entries g (substitute a t))
    × ((t : Tree) → ((x : ℕ) → StandsIn (var x) t → (l : ℕ) × (level_of scene.system.levels x ≡ Some l)) → substitute (valued g a) (substitute (valued v b) t) ≡ substitute (valued g s) t)
