-- Whether a variable stands in what a term becomes, node by node.
use Rattle.std.proofs.Common.{◌≡◌, ℕ, zero, suc, ◌+◌, ◌-◌, ◌<◌, ◌≤◌, List, [], ◌∷◌, ◌++◌, length, take, drop, Option, Some, None, refl, sym, ◌∙◌, ap, arith, inl, inr, subst, nat_eq, true}
use Rattle.std.specs.Prelude.{slice_get, reverse, All}
use Rattle.std.proofs.lemmas.Bool.{cases_Bool, eqb-true}
use Rattle.std.proofs.lemmas.List.Folds.{Any-from_list_any}
use Rattle.std.proofs.lemmas.List.Elements.{All-nil, All-push}
use Rattle.std.proofs.lemmas.List.{reverse-append, take-append-drop}
use Rattle.std.specs.List.{list_any}
use Rattle.indexmap.specs.IndexSet.{insert_key}
use Rattle.std.proofs.lemmas.Option.{none-some}
use Rattle.dps_terms.specs.Tree.{var, Tree, leaf, node_count, IsSubterm, StandsIn, itself}
use Rattle.dps_terms.specs.Replace.{substitute, variables_to}
use Rattle.dps_terms.specs.Bindings.{bound}
use Rattle.dps_terms.specs.Views.{view_of, arguments}
use Rattle.dps_terms.specs.Seen.{seen}
use Rattle.dps_terms.specs.Walk.{subterms_from}
use Rattle.dps_terms.specs.declared.TermView.TheVariants.{Var}
use Rattle.dps_terms.proofs.Replacing.{keeps_subterms}
use Rattle.dps_terms.proofs.Subterms.{nested}
use Rattle.dps_unify.specs.Chain.{solved, IsChain}
use Rattle.dps_unify.specs.Visits.{looked_at, IsPassed, Avoids, AllAvoid, IsBoundTo, Concludes, AreInside, IsVisiting}
use Rattle.dps_unify.specs.declared.reaching.Visit.{Visit}
use Rattle.dps_unify.proofs.Trees.{variable_of_instance, in_leaf, var_from_view, below_root}

-- the variables that were passed
pub all_listed : (P : ℕ → Type 0) (ks : List ℕ) (n : ℕ) → All P ks → list_any (nat_eq n) ks ≡ true → P n
all_listed P ks n h e =
    let a = Any-from_list_any (nat_eq n) ks e in
    subst P (sym (eqb-true n a.1 a.4)) (subst P a.3 (h a.0 a.1 a.2))

pub all_inserted : (P : ℕ → Type 0) (ks : List ℕ) (n : ℕ) → All P ks → P n → All P (insert_key nat_eq ks n)
all_inserted P ks n h k =
    elim (cases_Bool (list_any (nat_eq n) ks)) [
      | inl e ↦ rw e h
      | inr e ↦ rw e (All-push P ks n h k)
    ]

passed_on : (P : ℕ → Type 0) (old : List ℕ) (variable : Option ℕ) (new : List ℕ) → IsPassed old variable new → All P old → ((n : ℕ) → variable ≡ Some n → P n) → All P new
passed_on P old None new e h k = subst (All P) (sym e) h
passed_on P old (Some n) new e h k = subst (All P) (sym e) (all_inserted P old n h (k n refl))

pub last_first : (old new : List Visit) (v : Visit) → new ≡ old ++ v ∷ [] → reverse new ≡ v ∷ reverse old
last_first old new v e = ap reverse e ∙ reverse-append old (v ∷ [])

-- one node before
pub record IsNode (v w : Visit) (s : Tree) : Type 0 where
  pub some : 0 < v.left
  pub term : w.term ≡ v.term
  pub left : w.left ≡ v.left - 1
  pub variable : w.variable ≡ v.variable
  pub first : subterms_from (seen v.term) (v.left - 1) ≡ s ∷ drop (length (arguments s)) (subterms_from (seen v.term) (v.left - 1 + 1))
  pub below : arguments s ≡ take (length (arguments s)) (subterms_from (seen v.term) (v.left - 1 + 1))
  pub inside : IsSubterm s (seen v.term)

module _ (b : List (ℕ × Tree)) (chain : IsChain b) (x : ℕ) (free : bound b x ≡ None) (whole : Tree) where
  -- the whole, of which nothing is looked at
  pub begun : (v : Visit) (vs : List Visit) (passed : List ℕ) → vs ≡ v ∷ [] → seen v.term ≡ whole → v.left ≡ node_count whole → subterms_from (seen v.term) v.left ≡ [] → v.variable ≡ None
      → passed ≡ [] → IsVisiting b x whole vs passed
  begun v vs passed e t l none o p =
      subst (λ ws. IsVisiting b x whole ws passed) (sym e) record {
        concludes = (subst (AllAvoid b x) (sym none) tt, λ a. subst (Avoids b x) t a);
        inside = (
          omega (arith, l, ap node_count t),
          subst (λ w. IsBoundTo b x w (seen v.term)) (sym o) tt,
          λ k. subst (λ u. StandsIn (var x) (substitute (solved b) u)) t k,
          tt,
        );
        passed = subst (All (λ n. ¬ StandsIn (var x) (solved b n))) (sym p) (All-nil (λ n. ¬ StandsIn (var x) (solved b n)));
      }

  -- the trees behind a node avoid x, and so do the node's arguments
  split_avoids : (ts us : List Tree) → AllAvoid b x (ts ++ us) → AllAvoid b x ts × AllAvoid b x us
  split_avoids [] us h = (tt, h)
  split_avoids (t ∷ ts) us h = let r = split_avoids ts us h.1 in ((h.0, r.0), r.1)

  avoids_at : (ts : List Tree) (i : ℕ) (u : Tree) → AllAvoid b x ts → slice_get ts i ≡ Some u → Avoids b x u
  avoids_at [] i u h e = absurd (none-some u e)
  avoids_at (t ∷ ts) zero u h e = let d : t ≡ u = cc in subst (Avoids b x) d h.0
  avoids_at (t ∷ ts) (suc i) u h e = avoids_at ts i u h.1 e

  -- no variable
  pub other_avoids : (s : Tree) → ((n : ℕ) → view_of s ≡ Var n → ⊥) → AllAvoid b x (arguments s) → Avoids b x s
  other_avoids s other h k =
      let m = variable_of_instance (solved b) x s k in
      let a = below_root m.0 s other m.1 in
      avoids_at (arguments s) a.0 a.1 h a.2 (nested m.2 (keeps_subterms (variables_to (solved b)) a.3))

  -- a variable that is not bound, and is another one
  pub free_avoids : (s : Tree) (n : ℕ) → view_of s ≡ Var n → bound b n ≡ None → (n ≡ x → ⊥) → Avoids b x s
  free_avoids s n e loose other k =
      let d : substitute (solved b) s ≡ leaf (var n) = ap (substitute (solved b)) (var_from_view s n e) ∙ chain.stays n loose in
      let i = in_leaf (var n) (leaf (var x)) (subst (λ u. StandsIn (var x) u) d k) in
      other (let m : n ≡ x = cc in m)

  -- a variable that was passed
  pub passed_avoids : (s : Tree) (n : ℕ) → view_of s ≡ Var n → ¬ StandsIn (var x) (solved b n) → Avoids b x s
  passed_avoids s n e h k = h (subst (λ u. StandsIn (var x) (substitute (solved b) u)) (var_from_view s n e) k)

  -- a bound variable becomes what its term does
  pub follows : (n : ℕ) (u : Tree) → bound b n ≡ Some u → solved b n ≡ substitute (solved b) u
  follows n u e = chain.fulfilled n u e

  -- a term is looked through
  pub looked_through : (v : Visit) (vs : List Visit) (old new : List ℕ) → v.left ≡ 0 → IsPassed old v.variable new → IsVisiting b x whole (v ∷ vs) old → IsVisiting b x whole vs new
  looked_through v vs old new z p h =
      let a : Avoids b x (seen v.term) = (subst (λ n. AllAvoid b x (subterms_from (seen v.term) n)) z h.concludes.0).0 in
      record {
        concludes = h.concludes.1 a;
        inside = h.inside.3;
        passed = passed_on (λ n. ¬ StandsIn (var x) (solved b n)) old v.variable new p h.passed (λ n e. own n e h.inside.1 a);
      }
    where
      own : (n : ℕ) → v.variable ≡ Some n → IsBoundTo b x v.variable (seen v.term) → Avoids b x (seen v.term) → ¬ StandsIn (var x) (solved b n)
      own n e k a o = a (subst (λ u. StandsIn (var x) u) (subst (λ w. IsBoundTo b x w (seen v.term)) e k) o)

  module _ (v w : Visit) (vs : List Visit) (old : List ℕ) (s : Tree) (k : IsNode v w s) (h : IsVisiting b x whole (v ∷ vs) old) where
    parts : AllAvoid b x (arguments s) × AllAvoid b x (drop (length (arguments s)) (looked_at v))
    parts =
        let n = length (arguments s) in
        let one : v.left - 1 + 1 ≡ v.left = omega (arith, k.some) in
        let below_is : arguments s ≡ take n (looked_at v) = k.below ∙ ap (λ m. take n (subterms_from (seen v.term) m)) one in
        split_avoids (arguments s) (drop n (looked_at v))
        (subst (AllAvoid b x) (sym (take-append-drop n (looked_at v)) ∙ ap (λ us. us ++ drop n (looked_at v)) (sym below_is)) h.concludes.0)

    pub arguments_avoid : AllAvoid b x (arguments s)
    arguments_avoid = parts.0

    looked : looked_at w ≡ s ∷ drop (length (arguments s)) (looked_at v)
    looked =
        let one : v.left - 1 + 1 ≡ v.left = omega (arith, k.some) in
        (λ i. subterms_from (seen (k.term i)) (k.left i)) ∙ (k.first ∙ ap (λ m. s ∷ drop (length (arguments s)) (subterms_from (seen v.term) m)) one)

    inside_next : AreInside b x whole (w ∷ vs)
    inside_next = (
      subst (λ u. w.left ≤ node_count (seen u)) (sym k.term) (omega (arith, k.left, h.inside.0)),
      subst (λ o. IsBoundTo b x o (seen w.term)) (sym k.variable) (subst (λ u. IsBoundTo b x v.variable (seen u)) (sym k.term) h.inside.1),
      subst (λ u. StandsIn (var x) (substitute (solved b) (seen u)) → StandsIn (var x) (substitute (solved b) whole)) (sym k.term) h.inside.2,
      h.inside.3,
    )

    concludes_next : Avoids b x s → Concludes b x whole (w ∷ vs)
    concludes_next a = (
      subst (AllAvoid b x) (sym looked) (a, parts.1),
      subst (λ u. Avoids b x (seen u) → Concludes b x whole vs) (sym k.term) h.concludes.1,
    )

    -- the node avoids x
    pub goes_on : Avoids b x s → IsVisiting b x whole (w ∷ vs) old
    goes_on a = record { concludes = concludes_next a; inside = inside_next; passed = h.passed }

    -- the node is the variable
    pub found : (n : ℕ) → view_of s ≡ Var n → n ≡ x → StandsIn (var x) (substitute (solved b) whole)
    found n e same =
        let d : substitute (solved b) s ≡ leaf (var x) = ap (substitute (solved b)) (var_from_view s n e ∙ ap (λ m. leaf (var m)) same) ∙ chain.stays x free in
        h.inside.2 (nested (subst (λ u. StandsIn (var x) u) (sym d) itself) (keeps_subterms (variables_to (solved b)) k.inside))

    -- the node is a variable that is followed
    pub enters : (u : Visit) (n : ℕ) (t : Tree) → view_of s ≡ Var n → bound b n ≡ Some t → seen u.term ≡ t → u.left ≡ node_count t → subterms_from (seen u.term) u.left ≡ []
        → u.variable ≡ Some n → IsVisiting b x whole (u ∷ w ∷ vs) old
    enters u n t e bound_is term left none own =
        let becomes : substitute (solved b) s ≡ substitute (solved b) t = ap (substitute (solved b)) (var_from_view s n e) ∙ follows n t bound_is in
        record {
          concludes = (
            subst (AllAvoid b x) (sym none) tt,
            λ a. concludes_next (λ o. subst (Avoids b x) term a (subst (λ y. StandsIn (var x) y) becomes o)),
          );
          inside = (
            omega (arith, left, ap node_count term),
            subst (λ o. IsBoundTo b x o (seen u.term)) (sym own) (follows n t bound_is ∙ ap (substitute (solved b)) (sym term)),
            λ o. h.inside.2 (nested (subst (λ y. StandsIn (var x) y) (ap (substitute (solved b)) term ∙ sym becomes) o) (keeps_subterms (variables_to (solved b)) k.inside)),
            inside_next,
          );
          passed = h.passed;
        }
