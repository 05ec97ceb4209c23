-- Frames whose saturated messages pass against each other, both ways, are statically equivalent under the theory.
use Rattle.std.proofs.Common.{◌≡◌, ℕ, zero, suc, ◌<◌, ◌≤◌, List, length, slice_get, get_or, unwrap_or, Some, None, refl, sym, ◌∙◌, ap, subst, arith, inl, inr}
use Rattle.std.specs.Prelude.{Option}
use Rattle.std.proofs.lemmas.Option.{slice_get-get_or, slice_get_within}
use Rattle.dps_terms.specs.Tree.{public, private, var, ax, entry, rigid, Tree, Trees, leaf, app, none, more, StandsIn, IsAmong, itself, below, in_first, in_rest}
use Rattle.dps_terms.specs.Replace.{replace_all, numbered, handles_to, in_frame, put_entries}
use Rattle.dps_signature.specs.Signature.{Signature, HasArity, shapes}
use Rattle.dps_terms.specs.Kinds.{AreBuiltOf, AnySymbol}
use Rattle.dps_signature.specs.Kinds.{IsRecipe, IsRecipeLeaf}
use Rattle.dps_terms.proofs.Building.{leaf_meets}
use Rattle.dps_theory.specs.Theory.{Theory, IsAccepted, HasPlainRules, IsRuleLeaf}
use Rattle.dps_theory.specs.Evaluation.{Evaluates}
use Rattle.dps_theory.specs.Frames.{HasValue, AreStaticallyEquivalent}
use Rattle.dps_theory.proofs.Evaluating.{plain_evaluates, plain_alone}
use Rattle.dps_theory.proofs.Leaves.{leaf_of_value}
use Rattle.dps_static.specs.Generic.{IsNoRigidLeaf, HasNoRigidName, HaveNoRigidName}
use Rattle.dps_static.specs.Answer.{IsAtMost}
use Rattle.dps_static.specs.Saturation.{IsCleanFrame, StartsWith}
use Rattle.dps_static.proofs.Ways.{numbered-there}
use Rattle.dps_static.proofs.Carrying.{ArePassed, Carries, carried}

-- a tree in which no rigid name stands
mutual
  pub no_rigid : (t : Tree) → ((k : ℕ) → ¬ StandsIn (rigid k) t) → HasNoRigidName t
  no_rigid (leaf (rigid k)) h = absurd (h k itself)
  no_rigid (leaf (public a)) h = tt
  no_rigid (leaf (private n)) h = tt
  no_rigid (leaf (var n)) h = tt
  no_rigid (leaf (ax j)) h = tt
  no_rigid (leaf (entry i)) h = tt
  no_rigid (app f ts) h = (tt, no_rigids ts (λ k s. h k (below s)))

  pub no_rigids : (ts : Trees) → ((k : ℕ) → ¬ IsAmong (leaf (rigid k)) ts) → AreBuiltOf IsNoRigidLeaf AnySymbol ts
  no_rigids none h = tt
  no_rigids (more t ts) h = (no_rigid t (λ k s. h k (in_first s)), no_rigids ts (λ k s. h k (in_rest s)))

-- recipes over such a frame hold no rigid name, nor do their values
module _ (theory : Theory) (frame : List Tree) (clean : IsCleanFrame theory frame) (signature : Signature) where
  at_handle : (j : ℕ) → HasNoRigidName (numbered frame j (leaf (ax j)))
  at_handle zero = tt
  at_handle (suc k) = go (slice_get frame k) refl
    where
      go : (o : Option Tree) → slice_get frame k ≡ o → HasNoRigidName (unwrap_or o (leaf (ax (suc k))))
      go (Some t) e = clean.low k t e
      go None e = tt

  mutual
    clean_recipe : (r : Tree) → IsRecipe signature (length frame) r → HasNoRigidName (in_frame frame r)
    clean_recipe (leaf (public a)) h = tt
    clean_recipe (leaf (ax j)) h = at_handle j
    clean_recipe (leaf (private n)) h = absurd h
    clean_recipe (leaf (var n)) h = absurd h
    clean_recipe (leaf (entry n)) h = absurd h
    clean_recipe (leaf (rigid n)) h = absurd h
    clean_recipe (app f rs) h = (tt, clean_recipes rs h.1)

    clean_recipes : (rs : Trees) → AreBuiltOf (IsRecipeLeaf signature (length frame)) (HasArity (shapes signature)) rs → AreBuiltOf IsNoRigidLeaf AnySymbol (replace_all (handles_to frame) rs)
    clean_recipes none h = tt
    clean_recipes (more r rs) h = (clean_recipe r h.0, clean_recipes rs h.1)

  pub clean_value : IsAccepted theory → HasPlainRules theory → (r v : Tree) → IsRecipe signature (length frame) r → Evaluates theory (in_frame frame r) v → HasNoRigidName v
  clean_value accepted plain r v h e =
      no_rigid v (λ k s.
      elim (leaf_of_value theory accepted (rigid k) e s) [
        | inl m ↦ leaf_meets IsNoRigidLeaf AnySymbol (clean_recipe r h) m
        | inr q ↦ leaf_meets IsRuleLeaf AnySymbol (plain.right q.0 q.1) q.2
      ])

module _ (theory : Theory) (plain : HasPlainRules theory) (accepted : IsAccepted theory) (kept counterparts : List Tree) (low : HaveNoRigidName kept) (lower : HaveNoRigidName counterparts)
    (passed : ArePassed theory kept counterparts) (first second : List Tree) (clean : IsCleanFrame theory first) (cleaner : IsCleanFrame theory second) (lengths : length first ≡ length second)
    (starts : StartsWith kept first) (begins : StartsWith counterparts second) where
  message_carried :
      (j : ℕ) (v : Tree) → 1 ≤ j → j ≤ length first → Evaluates theory (in_frame first (leaf (ax j))) v
      → Carries theory plain accepted kept counterparts low lower passed (in_frame second (leaf (ax j))) v
  message_carried zero v l h e = absurd (omega arith)
  message_carried (suc k) v l h e =
      let t = get_or first k (leaf (ax (suc k))) in
      let u = get_or second k (leaf (ax (suc k))) in
      let at_t = slice_get-get_or first k (leaf (ax (suc k))) (omega arith) in
      let at_u = slice_get-get_or second k (leaf (ax (suc k))) (omega arith) in
      let from : in_frame first (leaf (ax (suc k))) ≡ t = ap (λ o. unwrap_or o (leaf (ax (suc k)))) at_t in
      let to : in_frame second (leaf (ax (suc k))) ≡ u = ap (λ o. unwrap_or o (leaf (ax (suc k)))) at_u in
      let value : v ≡ t = plain_alone theory (subst (λ w. Evaluates theory w v) from e) (clean.plain k t at_t) in
      let inside : k < length kept = slice_get_within kept k t (starts k t at_t) in
      let built : put_entries counterparts (leaf (entry (suc k))) ≡ u = numbered-there counterparts k u (leaf (entry (suc k))) (begins k u at_u) in
      record {
        way = leaf (entry (suc k));
        is_way = ((omega arith, omega (arith, inside)), tt);
        gives = numbered-there kept k t (leaf (entry (suc k))) (starts k t at_t) ∙ sym value;
        there = subst (Evaluates theory (in_frame second (leaf (ax (suc k))))) (sym built)
            (subst (λ w. Evaluates theory w u) (sym to) (plain_evaluates theory u (cleaner.plain k u at_u)));
      }

  module _ (signature : Signature) where
    pub carried_to : (r v : Tree) → IsRecipe signature (length first) r → HasValue theory first r v → Carries theory plain accepted kept counterparts low lower passed (in_frame second r) v
    carried_to r v h e =
        carried theory plain accepted kept counterparts low lower passed signature (length first) first second message_carried
        (clean_value theory first clean signature accepted plain) r v h e

    -- what holds in the first frame holds in the second
    pub at_most : IsAtMost signature theory first second
    at_most = record {
      successes = λ r h p. let c = carried_to r p.0 h p.1 in (put_entries counterparts c.way, c.there);
      equalities = λ r s h i e.
          let c = carried_to r e.value h e.left in
          let d = carried_to s e.value i e.right in
          let same : put_entries counterparts c.way ≡ put_entries counterparts d.way = passed.follows.stays c.way d.way c.is_way d.is_way (c.gives ∙ sym d.gives) in
          record { value = put_entries counterparts c.way; left = c.there; right = subst (Evaluates theory (in_frame second s)) (sym same) d.there };
    }

-- both directions
pub both_at_most :
    (signature : Signature) (theory : Theory) (first second : List Tree) → length first ≡ length second → IsAtMost signature theory first second
    → IsAtMost signature theory second first → AreStaticallyEquivalent signature theory first second
both_at_most signature theory first second lengths one two = record {
  same_length = lengths;
  same_successes = λ r h. (one.successes r h, two.successes r (subst (λ m. IsRecipe signature m r) lengths h));
  same_equalities = λ r s h i.
      (one.equalities r s h i, two.equalities r s (subst (λ m. IsRecipe signature m r) lengths h) (subst (λ m. IsRecipe signature m s) lengths i));
}
