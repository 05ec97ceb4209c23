-- Recipes, by their symbols and by their leaves.
use Rattle.std.proofs.Common.{◌≡◌, ℕ, zero, suc, refl, subst, Some}
use Rattle.std.specs.Prelude.{◌↔◌, slice_get}
use Rattle.std.proofs.lemmas.Option.{none-some}
use Rattle.dps_terms.specs.declared.Sym.{Sym}
use Rattle.dps_terms.specs.declared.borrowed.TermView.TheVariants.{App}
use Rattle.dps_terms.specs.Tree.{Leaf, public, private, var, ax, entry, rigid, Tree, Trees, leaf, app, none, more, list_of}
use Rattle.dps_terms.specs.Views.{view_of, arguments}
use Rattle.dps_signature.specs.Signature.{Signature, HasArity, shapes}
use Rattle.dps_terms.specs.Kinds.{AreBuiltOf, AnySymbol}
use Rattle.dps_signature.specs.Kinds.{IsLeafOver, IsOver, IsRecipeLeaf, IsRecipe}
use Rattle.dps_semantics.specs.Recipes.{IsRecipeKind, IsRecipeView, HasRecipeLeaves}

module _ (signature : Signature) (m : ℕ) where
  recipe_leaf : (x : Leaf) → IsRecipeLeaf signature m x ↔ (IsLeafOver signature x × IsRecipeKind m x)
  recipe_leaf (public n) = (λ h. (h, tt), λ p. p.0)
  recipe_leaf (private n) = (λ h. absurd h, λ p. p.1)
  recipe_leaf (var n) = (λ h. absurd h, λ p. p.1)
  recipe_leaf (ax n) = (λ h. (tt, h), λ p. p.1)
  recipe_leaf (entry n) = (λ h. absurd h, λ p. p.1)
  recipe_leaf (rigid n) = (λ h. absurd h, λ p. p.1)

  mutual
    pub recipe_term : (t : Tree) → IsRecipe signature m t ↔ (IsOver signature t × HasRecipeLeaves m t)
    recipe_term (leaf x) = recipe_leaf x
    recipe_term (app f ts) =
        let below = recipe_terms ts in (λ h. (let b = below.0 h.1 in ((h.0, b.0), (tt, b.1))), λ p. (p.0.0, below.1 (p.0.1, p.1.1)))

    recipe_terms : (ts : Trees) → AreBuiltOf (IsRecipeLeaf signature m) (HasArity (shapes signature)) ts ↔
        (AreBuiltOf (IsLeafOver signature) (HasArity (shapes signature)) ts × AreBuiltOf (IsRecipeKind m) AnySymbol ts)
    recipe_terms none = (λ h. (tt, tt), λ p. tt)
    recipe_terms (more t ts) =
        let first = recipe_term t in
        let rest = recipe_terms ts in
        (λ h. (let a = first.0 h.0 in let b = rest.0 h.1 in ((a.0, b.0), (a.1, b.1))), λ p. (first.1 (p.0.0, p.1.0), rest.1 (p.0.1, p.1.1)))

module _ (m : ℕ) where
  -- what stands at the root of a leaf says what it is
  pub recipe_view : (t : Tree) → ((g : Sym) → ¬ (view_of t ≡ App g)) → IsRecipeView m (view_of t) ↔ HasRecipeLeaves m t
  recipe_view (leaf (public n)) a = (λ h. h, λ h. h)
  recipe_view (leaf (private n)) a = (λ h. h, λ h. h)
  recipe_view (leaf (var n)) a = (λ h. h, λ h. h)
  recipe_view (leaf (ax n)) a = (λ h. h, λ h. h)
  recipe_view (leaf (entry n)) a = (λ h. h, λ h. h)
  recipe_view (leaf (rigid n)) a = (λ h. h, λ h. h)
  recipe_view (app f ts) a = absurd (a f refl)

  each_argument : (ts : Trees) → ((j : ℕ) (u : Tree) → slice_get (list_of ts) j ≡ Some u → HasRecipeLeaves m u) → AreBuiltOf (IsRecipeKind m) AnySymbol ts
  each_argument none h = tt
  each_argument (more t ts) h = (h 0 t refl, each_argument ts (λ j u e. h (suc j) u e))

  an_argument : (ts : Trees) (j : ℕ) (u : Tree) → slice_get (list_of ts) j ≡ Some u → AreBuiltOf (IsRecipeKind m) AnySymbol ts → HasRecipeLeaves m u
  an_argument none j u e h = absurd (none-some u e)
  an_argument (more t ts) zero u e h = let same : t ≡ u = cc in subst (HasRecipeLeaves m) same h.0
  an_argument (more t ts) (suc j) u e h = an_argument ts j u e h.1

  pub recipe_arguments : (t : Tree) (g : Sym) → view_of t ≡ App g → ((j : ℕ) (u : Tree) → slice_get (arguments t) j ≡ Some u → HasRecipeLeaves m u) → HasRecipeLeaves m t
  recipe_arguments (leaf (public n)) g e h = absurd (cc)
  recipe_arguments (leaf (private n)) g e h = absurd (cc)
  recipe_arguments (leaf (var n)) g e h = absurd (cc)
  recipe_arguments (leaf (ax n)) g e h = absurd (cc)
  recipe_arguments (leaf (entry n)) g e h = absurd (cc)
  recipe_arguments (leaf (rigid n)) g e h = absurd (cc)
  recipe_arguments (app f ts) g e h = (tt, each_argument ts h)

  pub recipe_argument : (t : Tree) (j : ℕ) (u : Tree) → slice_get (arguments t) j ≡ Some u → HasRecipeLeaves m t → HasRecipeLeaves m u
  recipe_argument (leaf x) j u e h = absurd (none-some u e)
  recipe_argument (app f ts) j u e h = an_argument ts j u e h.1
