-- Small scenes and asks. Variable 1 is the scene's and stands in a label; variable 100 is one of a rule.
use Rattle.std.specs.Prelude.{◌≡◌, ℕ, List, [], ◌∷◌, None}
use Rattle.dps_terms.specs.declared.PublicName.TheVariants.{Declared}
use Rattle.dps_terms.specs.Tree.{public, private, var, entry, Tree, leaf, app, none, more}
use Rattle.dps_solver.specs.Scene.{Scene, Ask}
use Rattle.dps_solver.specs.Search.{GeneralSolution, Finds, IsSpentWithin}

abbrev pub a : Tree
a = leaf (public (Declared 0))

abbrev pub k : Tree
k = leaf (private 0)

-- `senc(t,u)`
abbrev pub senc : Tree → Tree → Tree
senc t u = app (record { number = 0 }) (more t (more u none))

-- no entries, variable 1 of level 0
abbrev pub nothing_known : Scene
nothing_known =
    record {
      system = record {
        m = 0;
        levels = (1, 0) ∷ [];
        know = record { entries = []; handles = [] };
        labels = leaf (var 1) ∷ [];
        disequations = [];
      };
      values = [];
    }

-- one entry of level 1, whose value is the private name k, and variable 1 of the level l
abbrev pub key_known : ℕ → Scene
key_known l =
    record {
      system = record {
        m = 1;
        levels = (1, l) ∷ [];
        know = record { entries = record { recipe = leaf (entry 0); level = 1; composition = None } ∷ []; handles = [] };
        labels = leaf (var 1) ∷ [];
        disequations = [];
      };
      values = k ∷ [];
    }

-- variables 1 and 2 of level 0, both in labels
abbrev pub two_variables : Scene
two_variables =
    record {
      system = record {
        m = 0;
        levels = (1, 0) ∷ (2, 0) ∷ [];
        know = record { entries = []; handles = [] };
        labels = leaf (var 1) ∷ leaf (var 2) ∷ [];
        disequations = [];
      };
      values = [];
    }

-- one equation
abbrev pub equation : Tree → Tree → Ask
equation t u = record { equations = (t, u) ∷ []; targets = [] }

abbrev pub is_ciphertext : Ask
is_ciphertext = equation (leaf (var 1)) (senc (leaf (var 100)) a)

abbrev pub is_key : Ask
is_key = equation (leaf (var 1)) k

abbrev pub are_equal : Ask
are_equal = equation (leaf (var 1)) (leaf (var 2))

-- the search lists just one solution, with this number of moves, and it binds the variable to the tree
pub record FindsOne (scene : Scene) (ask : Ask) (x : ℕ) (t : Tree) (moves : ℕ) : Type 0 where
  pub solution : GeneralSolution
  pub finds : Finds scene ask (solution ∷ []) moves
  pub binds : solution.bindings x ≡ t
  pub only : (list : List GeneralSolution) (n : ℕ) → Finds scene ask list n → (list ≡ solution ∷ []) × (n ≡ moves)

-- the search lists nothing, with this number of moves
pub record FindsNone (scene : Scene) (ask : Ask) (moves : ℕ) : Type 0 where
  pub finds : Finds scene ask [] moves
  pub only : (list : List GeneralSolution) (n : ℕ) → Finds scene ask list n → (list ≡ []) × (n ≡ moves)

-- 1 is bound to `senc(Z,a)` with a new variable Z, in three moves; with room for two the search is spent
abbrev pub CiphertextIsComposed : Type 0
CiphertextIsComposed = FindsOne nothing_known is_ciphertext 1 (senc (leaf (var 101)) a) 3

abbrev pub CiphertextIsSpent : Type 0
CiphertextIsSpent = IsSpentWithin nothing_known is_ciphertext 2

-- a variable that came before the entry can't be it, and one that came after it can
abbrev pub EarlierIsNone : Type 0
EarlierIsNone = FindsNone (key_known 0) is_key 0

abbrev pub LaterIsEntry : Type 0
LaterIsEntry = FindsOne (key_known 1) is_key 1 (leaf (entry 1)) 1

-- of two variables of one level the one with the greater number is bound
abbrev pub GreaterIsBound : Type 0
GreaterIsBound = FindsOne two_variables are_equal 2 (leaf (var 1)) 0
