-- Terms over a signature, under replacement.
use Rattle.std.proofs.Common.{zero, suc, ◌≤◌, List, length, arith, ◌≡◌, ℕ, subst, sym}
use Rattle.std.specs.Prelude.{All}
use Rattle.std.proofs.lemmas.Option.{unwrap_or-slice_get}
use Rattle.dps_terms.specs.Tree.{Leaf, public, private, var, ax, entry, rigid, Tree, leaf, StandsIn}
use Rattle.dps_terms.specs.Replace.{substitute, variables_to, numbered, entries_to, put_entries}
use Rattle.dps_terms.specs.Kinds.{IsClosed, IsNoVariable, AnySymbol, IsKnowledgeTree, IsKnowledgeLeaf, NoRigidName}
use Rattle.dps_terms.proofs.Building.{built_instance, leaf_meets}
use Rattle.dps_signature.specs.Signature.{Signature, HasArity, shapes}
use Rattle.dps_signature.specs.Kinds.{IsOver, IsLeafOver, IsDeclared, IsRecipe, IsRecipeLeaf}

-- what a leaf of a term over a signature becomes under a substitution
over_leaf : (signature : Signature) (z : ℕ → Tree) (t : Tree) → ((n : ℕ) → StandsIn (var n) t → IsOver signature (z n)) → (x : Leaf) → StandsIn x t → IsLeafOver signature x
    → IsOver signature (variables_to z x)
over_leaf signature z t h (public n) k b = b
over_leaf signature z t h (private n) k b = tt
over_leaf signature z t h (var n) k b = h n k
over_leaf signature z t h (ax n) k b = tt
over_leaf signature z t h (entry n) k b = tt
over_leaf signature z t h (rigid n) k b = tt

pub substitution_stays_over : (signature : Signature) (z : ℕ → Tree) (t : Tree) → IsOver signature t → ((n : ℕ) → StandsIn (var n) t → IsOver signature (z n)) → IsOver signature (substitute z t)
substitution_stays_over signature z t b h =
    built_instance (IsLeafOver signature) (HasArity (shapes signature)) (IsLeafOver signature) (variables_to z) t b (over_leaf signature z t h)

-- the recipe of an entry
recipe_numbered : (signature : Signature) (m : ℕ) (recipes : List Tree) (i : ℕ) (d : Tree) → 1 ≤ i → i ≤ length recipes → All (IsRecipe signature m) recipes
    → IsRecipe signature m (numbered recipes i d)
recipe_numbered signature m recipes zero d l h all = absurd (omega arith)
recipe_numbered signature m recipes (suc k) d l h all =
    subst (IsRecipe signature m) (sym (unwrap_or-slice_get recipes k d)) (all k d (omega arith))

entry_leaf : (signature : Signature) (m n : ℕ) (recipes : List Tree) → n ≤ length recipes → All (IsRecipe signature m) recipes → (x : Leaf) → IsNoVariable x
    → IsKnowledgeLeaf (IsDeclared signature) NoRigidName n x → IsRecipe signature m (entries_to recipes x)
entry_leaf signature m n recipes l all (public a) c h = h
entry_leaf signature m n recipes l all (private a) c h = absurd h
entry_leaf signature m n recipes l all (var a) c h = absurd c
entry_leaf signature m n recipes l all (ax a) c h = absurd h
entry_leaf signature m n recipes l all (entry i) c h = recipe_numbered signature m recipes i (leaf (entry i)) h.0 (let k = h.1 in omega arith) all
entry_leaf signature m n recipes l all (rigid a) c h = absurd h

pub knowledge_becomes_recipes : (signature : Signature) (m n : ℕ) (recipes : List Tree) (t : Tree) → n ≤ length recipes → All (IsRecipe signature m) recipes → IsClosed t
    → IsKnowledgeTree (IsDeclared signature) NoRigidName (HasArity (shapes signature)) n t → IsRecipe signature m (put_entries recipes t)
knowledge_becomes_recipes signature m n recipes t l all c h =
    built_instance (IsKnowledgeLeaf (IsDeclared signature) NoRigidName n) (HasArity (shapes signature)) (IsRecipeLeaf signature m) (entries_to recipes) t h
    (λ x k b. entry_leaf signature m n recipes l all x (leaf_meets IsNoVariable AnySymbol c k) b)
