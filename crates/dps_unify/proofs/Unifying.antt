-- From pairs to bindings, and from bindings to the unifier.
use Rattle.std.proofs.Common.{◌≡◌, ℕ, zero, suc, ◌+◌, ◌<◌, ◌≤◌, List, [], ◌∷◌, ◌++◌, map, take, nat_eq, true, Option, Some, None, refl, sym, ◌∙◌, ap, arith, ◌⊎◌, inl, inr, subst, cond}
use Rattle.std.specs.Prelude.{slice_get, ◌↔◌}
use Rattle.std.specs.Option.{option_map}
use Rattle.std.proofs.lemmas.Bool.{cases_Bool, eqb-true, eq-eqb}
use Rattle.std.proofs.lemmas.Option.{none-some}
use Rattle.dps_terms.specs.Tree.{Leaf, public, private, var, ax, entry, rigid, Tree, Trees, leaf, app, none, more, StandsIn, IsAmong, itself, below, in_first, in_rest}
use Rattle.dps_terms.specs.Replace.{substitute}
use Rattle.dps_terms.specs.Bindings.{bound, image, IsDistinct}
use Rattle.dps_unify.specs.Order.{Precedes}
use Rattle.dps_unify.specs.Unifier.{Unifies, IsNotUnifiable, IsVariableOf, IsMgu}
use Rattle.dps_unify.specs.Chain.{Fulfils, solved, IsHeld, IsChain, IsLeast, IsResolved}
use Rattle.dps_unify.specs.Difference.{IsDifference, AreUnified}
use Rattle.dps_unify.specs.Forced.{AreNeverEqual, IsForced}
use Rattle.dps_unify.specs.Unified.{IsUnified, all_solved}
use Rattle.dps_unify.specs.Kept.{trees_of, IsKnown, IsKnownWith}
use Rattle.dps_unify.specs.declared.pending.Pending.{Pending}
use Rattle.dps_unify.proofs.Keeping.{kept_bound}
use Rattle.dps_unify.proofs.Bound.{cases_option, bound-map, bound-push_some, bound-push_none, single_here, image_none, image_some}
use Rattle.dps_unify.proofs.Chains.{empty_chain, empty_least, chain_push, least_push, fulfils_before, fulfils_here, fulfils_push, held_cases, cycle_is_unsolvable}
use Rattle.dps_unify.proofs.Pairs.{any_cases, any_none, StandsInPair}

-- how far the search has come: bindings, and the pairs that are pending
pub record Progress (levels : List (ℕ × ℕ)) (pairs : List (Tree × Tree)) (b : List (ℕ × Tree)) (pending : List (Tree × Tree)) : Type 0 where
  pub chain : IsChain b
  pub least : IsLeast levels b
  pub same : (r : ℕ → Tree) → Unifies r pairs ↔ (Fulfils r b × Unifies r pending)
  pub within : (n : ℕ) → IsHeld b n ⊎ IsVariableOf pending n → IsVariableOf pairs n

not_held : (b : List (ℕ × Tree)) (n : ℕ) → b ≡ [] → IsHeld b n → ⊥
not_held b n e h = let k : None ≡ Some h.1 = ap (λ s. bound s h.0) (sym e) ∙ h.2 in cc

pub progress_start : (levels : List (ℕ × ℕ)) (pairs : List (Tree × Tree)) (b : List (ℕ × Tree)) → b ≡ [] → Progress levels pairs b pairs
progress_start levels pairs b e = record {
  chain = subst IsChain (sym e) empty_chain;
  least = subst (IsLeast levels) (sym e) (empty_least levels);
  same = λ r. (λ u. (λ n t k. let q : None ≡ Some t = ap (λ s. bound s n) (sym e) ∙ k in cc, u), λ u. u.1);
  within = λ n h. elim h [ inl k ↦ absurd (not_held b n e k) | inr k ↦ k ];
}

pub progress_end : (levels : List (ℕ × ℕ)) (pairs : List (Tree × Tree)) (b : List (ℕ × Tree)) (pending : List (Tree × Tree)) → Progress levels pairs b pending → AreUnified b pending
    → IsUnified levels pairs b
progress_end levels pairs b pending h u = record {
  chain = h.chain;
  least = h.least;
  same = λ r. (λ k. ((h.same r).0 k).0, λ f. (h.same r).1 (f, u r f));
  within = λ n k. h.within n (inl k);
}

-- the number of places where an unbound variable stands
abbrev pub place : Option Tree → ℕ
place None = 1
place (Some t) = 0

abbrev pub leaf_places : List (ℕ × Tree) → Leaf → ℕ
leaf_places b (var n) = place (bound b n)
leaf_places b x = 0

abbrev mutual
  pub places : List (ℕ × Tree) → Tree → ℕ
  places b (leaf x) = leaf_places b x
  places b (app f ts) = places_all b ts

  pub places_all : List (ℕ × Tree) → Trees → ℕ
  places_all b none = 0
  places_all b (more t ts) = places b t + places_all b ts

abbrev pub pair_places : List (ℕ × Tree) → List (Tree × Tree) → ℕ
pair_places b [] = 0
pair_places b (p ∷ ps) = places b p.0 + places b p.1 + pair_places b ps

module _ (b q : List (ℕ × Tree)) (fewer : (n : ℕ) → bound q n ≡ None → bound b n ≡ None) where
  place_le : (o p : Option Tree) → (p ≡ None → o ≡ None) → place p ≤ place o
  place_le None None h = omega arith
  place_le None (Some t) h = omega arith
  place_le (Some t) None h = let e = h refl in cc
  place_le (Some t) (Some u) h = omega arith

  leaf_places_le : (x : Leaf) → leaf_places q x ≤ leaf_places b x
  leaf_places_le (var n) = place_le (bound b n) (bound q n) (fewer n)
  leaf_places_le (public n) = omega arith
  leaf_places_le (private n) = omega arith
  leaf_places_le (ax n) = omega arith
  leaf_places_le (entry n) = omega arith
  leaf_places_le (rigid n) = omega arith

  mutual
    places_le : (t : Tree) → places q t ≤ places b t
    places_le (leaf x) = leaf_places_le x
    places_le (app f ts) = places_all_le ts

    places_all_le : (ts : Trees) → places_all q ts ≤ places_all b ts
    places_all_le none = omega arith
    places_all_le (more t ts) = omega (arith, places_le t, places_all_le ts)

  pair_places_le : (ps : List (Tree × Tree)) → pair_places q ps ≤ pair_places b ps
  pair_places_le [] = omega arith
  pair_places_le (p ∷ ps) = omega (arith, places_le p.0, places_le p.1, pair_places_le ps)

  module _ (x : ℕ) (v : Tree) (before : bound b x ≡ None) (after : bound q x ≡ Some v) where
    mutual
      places_lt : {t : Tree} → StandsIn (var x) t → places q t < places b t
      places_lt itself = omega (arith, ap place before, ap place after)
      places_lt (below k) = places_all_lt k

      places_all_lt : {ts : Trees} → IsAmong (leaf (var x)) ts → places_all q ts < places_all b ts
      places_all_lt (in_first {t = t} {ts = ts} k) = omega (arith, places_lt k, places_all_le ts)
      places_all_lt (in_rest {t = t} {ts = ts} k) = omega (arith, places_le t, places_all_lt k)

    pair_places_lt : (ps : List (Tree × Tree)) → IsVariableOf ps x → pair_places q ps < pair_places b ps
    pair_places_lt [] h = absurd (any_none (StandsInPair x) h)
    pair_places_lt (p ∷ ps) h =
        elim (any_cases (StandsInPair x) p ps h) [
          | inl k ↦ elim k [
            | inl o ↦ omega (arith, places_lt o, places_le p.1, pair_places_le ps)
            | inr o ↦ omega (arith, places_le p.0, places_lt o, pair_places_le ps)
          ]
          | inr k ↦ omega (arith, places_le p.0, places_le p.1, pair_places_lt ps k)
        ]

-- a step: two parts that differ, and what they force
module _ (levels : List (ℕ × ℕ)) (pairs : List (Tree × Tree)) (b : List (ℕ × Tree)) (pending rest : List (Tree × Tree)) (a c : Tree) (h : Progress levels pairs b pending)
    (d : IsDifference b pending rest a c) where
  -- what unifies the pairs makes the parts equal
  equal_parts : (r : ℕ → Tree) → Unifies r pairs → Fulfils r b × Unifies r rest × (substitute r a ≡ substitute r c)
  equal_parts r u =
      let k = (h.same r).0 u in
      let l = (d.same r k.0).0 k.1 in (k.0, l.0, l.1)

  pub never_unified : AreNeverEqual a c → IsNotUnifiable pairs
  never_unified apart r u = apart r (equal_parts r u).2

  module _ (x : ℕ) (v : Tree) (forced : IsForced levels a c x v) where
    pub forced_is_free : bound b x ≡ None
    forced_is_free = elim forced.sides [ inl k ↦ d.left x k.0 | inr k ↦ d.right x k.0 ]

    term_is_resolved : IsResolved b v
    term_is_resolved =
        elim forced.sides [ inl k ↦ subst (IsResolved b) k.1 d.right | inr k ↦ subst (IsResolved b) k.1 d.left ]

    forced_equal : (r : ℕ → Tree) → substitute r a ≡ substitute r c → r x ≡ substitute r v
    forced_equal r e =
        elim forced.sides [
          | inl k ↦ sym (ap (substitute r) k.0) ∙ e ∙ ap (substitute r) k.1
          | inr k ↦ sym (ap (substitute r) k.0) ∙ sym e ∙ ap (substitute r) k.1
        ]

    equal_forced : (r : ℕ → Tree) → r x ≡ substitute r v → substitute r a ≡ substitute r c
    equal_forced r e =
        elim forced.sides [
          | inl k ↦ ap (substitute r) k.0 ∙ e ∙ sym (ap (substitute r) k.1)
          | inr k ↦ ap (substitute r) k.1 ∙ sym e ∙ sym (ap (substitute r) k.0)
        ]

    in_parts : (n : ℕ) → (n ≡ x) ⊎ StandsIn (var n) v → StandsIn (var n) a ⊎ StandsIn (var n) c
    in_parts n (inl e) =
        elim forced.sides [
          | inl k ↦ inl (subst (λ t. StandsIn (var n) t) (ap (λ m. leaf (var m)) e ∙ sym k.0) itself)
          | inr k ↦ inr (subst (λ t. StandsIn (var n) t) (ap (λ m. leaf (var m)) e ∙ sym k.0) itself)
        ]
    in_parts n (inr o) =
        elim forced.sides [
          | inl k ↦ inr (subst (λ t. StandsIn (var n) t) (sym k.1) o)
          | inr k ↦ inl (subst (λ t. StandsIn (var n) t) (sym k.1) o)
        ]

    within_pairs : (n : ℕ) → IsVariableOf pending n ⊎ IsHeld b n → IsVariableOf pairs n
    within_pairs n (inl k) = h.within n (inr k)
    within_pairs n (inr k) = h.within n (inl k)

    forced_within : (n : ℕ) → (n ≡ x) ⊎ StandsIn (var n) v → IsVariableOf pairs n
    forced_within n k = within_pairs n (d.within_parts n (in_parts n k))

    pub cycle_is_not_unifiable : StandsIn (var x) (substitute (solved b) v) → IsNotUnifiable pairs
    cycle_is_not_unifiable k r u =
        let e = equal_parts r u in
        cycle_is_unsolvable b h.chain x v forced_is_free term_is_resolved forced.other k r e.0 (forced_equal r e.2)

    module _ (absent : ¬ StandsIn (var x) (substitute (solved b) v)) (q : List (ℕ × Tree)) (is : q ≡ b ++ (x, v) ∷ []) where
      step_within : (n : ℕ) → IsHeld (b ++ (x, v) ∷ []) n ⊎ IsVariableOf rest n → IsVariableOf pairs n
      step_within n (inl k) =
          elim (held_cases b h.chain x v forced_is_free n k) [ inl o ↦ h.within n (inl o) | inr o ↦ forced_within n o ]
      step_within n (inr k) = within_pairs n (d.within_pairs n k)

      pub progress_step : Progress levels pairs q rest
      progress_step = subst (λ s. Progress levels pairs s rest) (sym is) (record {
        chain = chain_push b h.chain x v forced_is_free term_is_resolved absent;
        least = least_push b h.chain x v forced_is_free term_is_resolved absent levels h.least forced.first;
        same = λ r. (
          λ u. let e = equal_parts r u in (fulfils_push b h.chain x v forced_is_free r e.0 (forced_equal r e.2), e.1),
          λ k.
              let f = fulfils_before b h.chain x v forced_is_free r k.0 in
              let e = equal_forced r (fulfils_here b h.chain x v forced_is_free r k.0) in
              (h.same r).1 (f, (d.same r f).1 (k.1, e)),
        );
        within = step_within;
      })

      pub was_fulfilled : (r : ℕ → Tree) → Fulfils r q → Fulfils r b × (substitute r a ≡ substitute r c)
      was_fulfilled r k =
          let f = subst (Fulfils r) is k in
          (fulfils_before b h.chain x v forced_is_free r f, equal_forced r (fulfils_here b h.chain x v forced_is_free r f))

      was_free : (n : ℕ) → bound q n ≡ None → bound b n ≡ None
      was_free n e =
          elim (cases_option (bound b n)) [
            | inl k ↦ k
            | inr w ↦ let o : None ≡ Some w.0 = sym e ∙ ap (λ s. bound s n) is ∙ bound-push_some b (x, v) n w.0 w.1 in cc
          ]

      pub places_fall : pair_places q pairs < pair_places b pairs
      places_fall =
          pair_places_lt b q was_free x v forced_is_free
          (ap (λ s. bound s x) is ∙ bound-push_none b (x, v) x forced_is_free ∙ single_here x v)
          pairs (forced_within x (inl refl))

-- how far the search has come, with what is known of the pending pairs
pub record Searches (levels : List (ℕ × ℕ)) (pairs : List (Tree × Tree)) (b : List (ℕ × Tree)) (pending : Pending) : Type 0 where
  pub progress : Progress levels pairs b (trees_of pending)
  pub known : IsKnown b pending

pub searches_on : (levels : List (ℕ × ℕ)) (pairs : List (Tree × Tree)) (b : List (ℕ × Tree)) (pending rest : Pending) (a c : Tree) (h : Searches levels pairs b pending)
    (d : IsDifference b (trees_of pending) (trees_of rest) a c) (kept : IsKnownWith b a c rest) (x : ℕ) (v : Tree) (forced : IsForced levels a c x v)
    (absent : ¬ StandsIn (var x) (substitute (solved b) v)) (q : List (ℕ × Tree)) (is : q ≡ b ++ (x, v) ∷ []) → Searches levels pairs q rest
searches_on levels pairs b pending rest a c h d kept x v forced absent q is = record {
  progress = progress_step levels pairs b (trees_of pending) (trees_of rest) a c h.progress d x v forced absent q is;
  known = kept_bound b q rest a c kept (was_fulfilled levels pairs b (trees_of pending) (trees_of rest) a c h.progress d x v forced absent q is);
}

-- the unifier, from bindings
module _ (levels : List (ℕ × ℕ)) (pairs : List (Tree × Tree)) (b : List (ℕ × Tree)) (h : IsUnified levels pairs b) where
  bound_end : (n : ℕ) → bound (all_solved b) n ≡ option_map (substitute (solved b)) (bound b n)
  bound_end n = bound-map (substitute (solved b)) b n

  image_end : (n : ℕ) → image (all_solved b) n ≡ solved b n
  image_end n =
      elim (cases_option (bound b n)) [
        | inl e ↦ image_none (all_solved b) n (bound_end n ∙ ap (option_map (substitute (solved b))) e) ∙ sym (h.chain.stays n e)
        | inr w ↦
            image_some (all_solved b) n (substitute (solved b) w.0) (bound_end n ∙ ap (option_map (substitute (solved b))) w.1)
            ∙ sym (h.chain.fulfilled n w.0 w.1)
      ]

  same_end : image (all_solved b) ≡ solved b
  same_end = λ i n. image_end n i

  bound_before : (n : ℕ) (t : Tree) → bound (all_solved b) n ≡ Some t → (w : Tree) × (bound b n ≡ Some w) × (t ≡ solved b n)
  bound_before n t e =
      elim (cases_option (bound b n)) [
        | inl k ↦ let o : Some t ≡ None = sym e ∙ bound_end n ∙ ap (option_map (substitute (solved b))) k in cc
        | inr w ↦
            let o : Some t ≡ Some (substitute (solved b) w.0) = sym e ∙ bound_end n ∙ ap (option_map (substitute (solved b))) w.1 in
            let p : t ≡ substitute (solved b) w.0 = cc in (w.0, w.1, p ∙ sym (h.chain.fulfilled n w.0 w.1))
      ]

  least_end : (x y : ℕ) → bound (all_solved b) x ≡ Some (leaf (var y)) → Precedes levels y x
  least_end x y e =
      let w = bound_before x (leaf (var y)) e in
      elim (h.least x y (sym w.2)) [
        | inl k ↦
            let stands : StandsIn (var x) (solved b x) = subst (λ t. StandsIn (var x) t) (ap (λ m. leaf (var m)) k ∙ w.2) itself in
            let o : None ≡ Some w.0 = sym (h.chain.is_open x x stands) ∙ w.1 in cc
        | inr k ↦ k
      ]

  holds_end : (n : ℕ) (t : Tree) → bound (all_solved b) n ≡ Some t → (m : ℕ) → StandsIn (var m) t → IsVariableOf pairs m
  holds_end n t e m k =
      let w = bound_before n t e in
      elim (h.chain.within n m (subst (λ u. StandsIn (var m) u) w.2 k)) [
        | inl o ↦ h.within m (n, w.0, w.1, inl o)
        | inr o ↦ h.within m o
      ]

  pub mgu_end : IsMgu levels pairs (all_solved b)
  mgu_end = record {
    unifies = subst (λ z. Unifies z pairs) (sym same_end) ((h.same (solved b)).1 h.chain.fulfilled);
    general = λ r u n. ap (substitute r) (image_end n) ∙ h.chain.general r ((h.same r).0 u) n;
    idempotent = subst (λ (z : ℕ → Tree). (n : ℕ) → substitute z (z n) ≡ z n) (sym same_end) (h.chain.general (solved b) h.chain.fulfilled);
    least = least_end;
    binds = λ n t e. let w = bound_before n t e in h.within n (n, w.0, w.1, inl refl);
    holds = holds_end;
  }

-- the pair with the function's value in the place of its tree
abbrev pub with_second : (Tree → Tree) → ℕ × Tree → ℕ × Tree
with_second F p = (p.0, F p.1)

-- a variable that comes later is not among the earlier ones
has_later : (b : List (ℕ × Tree)) (i : ℕ) (p : ℕ × Tree) → slice_get b i ≡ Some p → bound b p.0 ≡ None → ⊥
has_later [] i p e k = none-some p e
has_later (q ∷ b) zero p e k =
    let d : q ≡ p = cc in
    let s : nat_eq p.0 q.0 ≡ true = eq-eqb p.0 q.0 (ap (λ o. o.0) (sym d)) in
    let o : Some q.1 ≡ None = sym (ap (λ v. cond v (Some q.1) (bound b p.0)) s) ∙ k in cc
has_later (q ∷ b) (suc i) p e k =
    elim (cases_Bool (nat_eq p.0 q.0)) [
      | inl s ↦ let o : Some q.1 ≡ None = sym (ap (λ v. cond v (Some q.1) (bound b p.0)) s) ∙ k in cc
      | inr s ↦ has_later b i p e (sym (ap (λ v. cond v (Some q.1) (bound b p.0)) s) ∙ k)
    ]

pub later_is_free : (F : Tree → Tree) (b : List (ℕ × Tree)) (i : ℕ) (p : ℕ × Tree) → IsDistinct b → slice_get b i ≡ Some p → bound (map (with_second F) (take i b)) p.0 ≡ None
later_is_free F [] i p d e = absurd (none-some p e)
later_is_free F (q ∷ b) zero p d e = refl
later_is_free F (q ∷ b) (suc i) p d e =
    elim (cases_Bool (nat_eq p.0 q.0)) [
      | inl s ↦ absurd (has_later b i p e (ap (bound b) (eqb-true p.0 q.0 s) ∙ d.0))
      | inr s ↦ rw s (later_is_free F b i p d.1 e)
    ]

pub solved_next : (F : Tree → Tree) (b : List (ℕ × Tree)) (i : ℕ) (p : ℕ × Tree) → slice_get b i ≡ Some p → map (with_second F) (take (suc i) b) ≡ map (with_second F) (take i b) ++ (p.0, F p.1) ∷ []
solved_next F [] i p e = absurd (none-some p e)
solved_next F (q ∷ b) zero p e = let d : q ≡ p = cc in let solve : ℕ × Tree → ℕ × Tree = λ o. (o.0, F o.1) in ap (λ o. solve o ∷ []) d
solved_next F (q ∷ b) (suc i) p e = let first : ℕ × Tree = (q.0, F q.1) in ap (λ r. first ∷ r) (solved_next F b i p e)
