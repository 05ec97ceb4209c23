-- What a reader expects of terms over a signature, each stated as one fact.
use Rattle.std.specs.Prelude.{ℕ, ◌≤◌, List, All, length}
use Rattle.dps_terms.specs.Tree.{var, Tree, StandsIn}
use Rattle.dps_terms.specs.Replace.{substitute, put_entries}
use Rattle.dps_terms.specs.Kinds.{IsClosed, IsKnowledgeTree, NoRigidName}
use Rattle.dps_signature.specs.Signature.{Signature, HasArity, shapes}
use Rattle.dps_signature.specs.Kinds.{IsOver, IsDeclared, IsRecipe}

-- terms over a signature, put for the variables of such a term, give such a term
abbrev pub SubstitutionStaysOver : Type 0
SubstitutionStaysOver =
    (signature : Signature) (z : ℕ → Tree) (t : Tree)
    → IsOver signature t
    → ((n : ℕ) → StandsIn (var n) t → IsOver signature (z n))
    → IsOver signature (substitute z t)

-- a closed tree of knowledge over a signature, with recipes for its entries, is a recipe
abbrev pub KnowledgeBecomesRecipes : Type 0
KnowledgeBecomesRecipes =
    (signature : Signature) (m n : ℕ) (recipes : List Tree) (t : Tree)
    → n ≤ length recipes
    → All (IsRecipe signature m) recipes
    → IsClosed t
    → IsKnowledgeTree (IsDeclared signature) NoRigidName (HasArity (shapes signature)) n t
    → IsRecipe signature m (put_entries recipes t)
