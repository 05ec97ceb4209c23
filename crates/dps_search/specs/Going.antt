-- Single steps from a branch to the next.
use Rattle.std.specs.Prelude.{◌≡◌, ◌⊎◌, ◌+◌, ℕ, List, [], ◌∷◌}
use Rattle.dps_terms.specs.Tree.{var, entry, Tree, leaf}
use Rattle.dps_solver.specs.Levels.{IsVariableUpTo}
use Rattle.dps_solver.specs.Search.{Branch, then_put, with_tree, lowered}
use Rattle.dps_solver.specs.declared.scene.Target.{Target}

-- the tree is put for the variable in the trees
abbrev pub with_one_tree : ℕ → Tree → Branch → Branch
with_one_tree x t b = record b { trees = then_put x t b.trees }

-- a variable of at most the target's level is the target's tree, and another becomes the target's
abbrev pub IsFollowed : Branch → Target → List Target → ℕ → Branch → Type 0
IsFollowed b z rest w c =
    (IsVariableUpTo b.levels z.level w × (c ≡ with_tree b z rest (leaf (var w))))
    ⊎ ((¬ IsVariableUpTo b.levels z.level w) × (c ≡ lowered b z rest w))

-- targets of this level for the terms, which go by the numbers from the first one on
abbrev pub targets_from : ℕ → ℕ → List Tree → List Target
targets_from l n [] = []
targets_from l n (t ∷ ts) = record { name = n; level = l; term = t } ∷ targets_from l (n + 1) ts

-- the entry is the target's tree, theta is put for variables, and these targets are left
abbrev pub entered : Branch → ℕ → List Target → ℕ → (ℕ → Tree) → Branch
entered b name rest i theta =
    record {
      theta = theta;
      trees = then_put name (leaf (entry i)) b.trees;
      targets = rest;
      levels = b.levels;
      next = b.next;
    }
