-- What is known of the solution that is listed first.
use Rattle.std.specs.Prelude.{◌≢◌, ℕ, List, ◌∷◌, Contains}
use Rattle.dps_terms.specs.Tree.{entry, Tree, leaf, IsSubterm}
use Rattle.dps_terms.specs.Replace.{substitute, put_entries}
use Rattle.dps_know.specs.Know.{IsThere}
use Rattle.dps_solver.specs.Scene.{Scene, Ask}
use Rattle.dps_solver.specs.Solutions.{IsSolution, IsValuation}
use Rattle.dps_solver.specs.Search.{GeneralSolution, IsPlain, Finds}
use Rattle.dps_directions.specs.Valid.{IsValid, Fits, IsComposed}
use Rattle.dps_directions.specs.Shapes.{HasNoRuleVariable}

-- Where an ask holds no variable of a rule and the first solution is plain, the search came to each composed part of its
-- answers after it had tried all entries: under no solution has such a part an entry's value.
abbrev pub FirstIsApart : (ℕ → Type 0) → Scene → Ask → Type 0
FirstIsApart names scene ask =
    (first : GeneralSolution) (more : List GeneralSolution) (moves : ℕ)
    → IsValid names scene → Fits scene ask → HasNoRuleVariable scene ask
    → Finds scene ask (first ∷ more) moves → IsPlain first
    → (t u : Tree) → Contains first.answers t → IsSubterm u t → IsComposed u
    → (i : ℕ) → IsThere scene.system.know i
    → (s : ℕ → Tree) (g : List Tree) → IsSolution names scene.system s → IsValuation scene s g
    → put_entries g (substitute s u) ≢ put_entries g (leaf (entry i))
