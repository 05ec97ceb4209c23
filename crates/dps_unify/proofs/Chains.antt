-- Chains of bindings: the empty one, and one more binding.
use Rattle.std.proofs.Common.{◌≡◌, ℕ, suc, ◌<◌, ◌≤◌, List, [], ◌∷◌, ◌++◌, nat_eq, length, Some, None, refl, sym, ◌∙◌, ap, arith, ◌⊎◌, inl, inr, subst}
use Rattle.std.proofs.lemmas.Bool.{cases_Bool, eqb-true, eq-eqb}
use Rattle.dps_terms.specs.Tree.{public, private, var, ax, entry, rigid, Tree, leaf, app, StandsIn, itself}
use Rattle.dps_terms.specs.Replace.{substitute}
use Rattle.dps_terms.specs.Bindings.{bound, image}
use Rattle.dps_unify.specs.Order.{Precedes}
use Rattle.dps_unify.specs.Chain.{Fulfils, and_then, solved_from, solved, links_of, links, IsHeld, IsResolved, IsChain, IsLeast}
use Rattle.dps_unify.proofs.Bound.{cases_option, single, single_here, single_cases, bound-push_some, bound-push_none, image_none, image_some}
use Rattle.dps_unify.proofs.Trees.{substitute_in_turn, substitute_agrees, substitute_stays, variable_of_instance, in_leaf, occurs_check}
use Rattle.dps_unify.proofs.Orders.{precedes_trans}

-- nothing bound
no_pairs : (n : ℕ) (t : Tree) → bound [] n ≡ Some t → ⊥
no_pairs n t e = cc

in_var : (n m : ℕ) → StandsIn (var m) (leaf (var n)) → m ≡ n
in_var n m k = let e = in_leaf (var n) (leaf (var m)) k in cc

pub empty_chain : IsChain []
empty_chain = record {
  fulfilled = λ n t e. absurd (no_pairs n t e);
  general = λ r f n. refl;
  stays = λ n e. refl;
  is_open = λ n m k. refl;
  within = λ n m k. inl (in_var n m k);
  goes_on = λ n t e. absurd (no_pairs n t e);
}

pub empty_least : (levels : List (ℕ × ℕ)) → IsLeast levels []
empty_least levels n y e = inl (cc)

-- what fulfils the bindings sees no difference between a tree and what it becomes
pub general_tree : (b : List (ℕ × Tree)) → IsChain b → (r : ℕ → Tree) → Fulfils r b → (t : Tree) → substitute r (substitute (solved b) t) ≡ substitute r t
general_tree b h r f t = substitute_in_turn r (solved b) t ∙ substitute_agrees (λ n. substitute r (solved b n)) r t (λ n k. h.general r f n)

-- a tree that becomes a variable is one
var_before : (z : ℕ → Tree) (t : Tree) (y : ℕ) → substitute z t ≡ leaf (var y) → (k : ℕ) × (t ≡ leaf (var k))
var_before z (app f ts) y e = cc
var_before z (leaf (var k)) y e = (k, refl)
var_before z (leaf (public k)) y e = cc
var_before z (leaf (private k)) y e = cc
var_before z (leaf (ax k)) y e = cc
var_before z (leaf (entry k)) y e = cc
var_before z (leaf (rigid k)) y e = cc

pub resolved_variable : (b : List (ℕ × Tree)) → IsChain b → (t : Tree) → IsResolved b t → (y : ℕ) → substitute (solved b) t ≡ leaf (var y) → t ≡ leaf (var y)
resolved_variable b h t loose y e =
    let k = var_before (solved b) t y e in
    let a : solved b k.0 ≡ leaf (var k.0) = h.stays k.0 (loose k.0 k.1) in
    k.1 ∙ sym a ∙ ap (substitute (solved b)) (sym k.1) ∙ e

-- the links behind one more binding

length_push : (s : List (ℕ × Tree)) (p : ℕ × Tree) → length (s ++ p ∷ []) ≡ suc (length s)
length_push [] p = refl
length_push (q ∷ s) p = ap suc (length_push s p)

module _ (p : ℕ × Tree) where
  links_of_push_bound : (s : List (ℕ × Tree)) (n : ℕ) (w : Tree) → bound s n ≡ Some w → links_of (s ++ p ∷ []) n ≡ suc (links_of s n)
  links_of_push_bound [] n w e = cc
  links_of_push_bound (q ∷ s) n w e =
      elim (cases_Bool (nat_eq n q.0)) [
        | inl d ↦ rw (d, length_push s p) refl
        | inr d ↦ rw d (links_of_push_bound s n w (rw d at e))
      ]

  links_of_push_free : (s : List (ℕ × Tree)) (n : ℕ) → bound s n ≡ None → links_of (s ++ p ∷ []) n ≡ links_of (p ∷ []) n
  links_of_push_free [] n e = refl
  links_of_push_free (q ∷ s) n e =
      elim (cases_Bool (nat_eq n q.0)) [
        | inl d ↦ let k = rw d at e in cc
        | inr d ↦ rw d (links_of_push_free s n (rw d at e))
      ]

  one_link : (n : ℕ) → links_of (p ∷ []) n ≤ 1
  one_link n = elim (cases_Bool (nat_eq n p.0)) [ inl d ↦ rw d (omega arith) | inr d ↦ rw d (omega arith) ]

  links_push_le : (s : List (ℕ × Tree)) (t : Tree) → links (s ++ p ∷ []) t ≤ suc (links s t)
  links_push_le s (leaf (var n)) =
      elim (cases_option (bound s n)) [
        | inl e ↦ omega (arith, links_of_push_free s n e, one_link n)
        | inr w ↦ omega (arith, links_of_push_bound s n w.0 w.1)
      ]
  links_push_le s (leaf (public n)) = omega arith
  links_push_le s (leaf (private n)) = omega arith
  links_push_le s (leaf (ax n)) = omega arith
  links_push_le s (leaf (entry n)) = omega arith
  links_push_le s (leaf (rigid n)) = omega arith
  links_push_le s (app f ts) = omega arith

solved_from-push : (z : ℕ → Tree) (s : List (ℕ × Tree)) (p : ℕ × Tree) → solved_from z (s ++ p ∷ []) ≡ and_then (solved_from z s) p
solved_from-push z [] p = refl
solved_from-push z (q ∷ s) p = solved_from-push (and_then z q) s p

-- one more binding, of x to v
module _ (b : List (ℕ × Tree)) (h : IsChain b) (x : ℕ) (v : Tree) (free : bound b x ≡ None) where
  u : Tree
  u = substitute (solved b) v

  put : ℕ → Tree
  put = image (single x (substitute (solved b) v))

  put_here : put x ≡ substitute (solved b) v
  unfolding put
  put_here = image_some (single x (substitute (solved b) v)) x (substitute (solved b) v) (single_here x (substitute (solved b) v))

  put_at : (n : ℕ) → ((n ≡ x) × (put n ≡ substitute (solved b) v)) ⊎ ((n ≡ x → ⊥) × (put n ≡ leaf (var n)))
  unfolding put
  put_at n =
      elim (single_cases x (substitute (solved b) v) n) [
        | inl k ↦ inl (k.0, image_some (single x (substitute (solved b) v)) n (substitute (solved b) v) k.1)
        | inr k ↦ inr (k.0, image_none (single x (substitute (solved b) v)) n k.1)
      ]

  after : ℕ → Tree
  after n = substitute put (solved b n)

  solved-push : solved (b ++ (x, v) ∷ []) ≡ after
  unfolding after put
  solved-push = solved_from-push (λ n. leaf (var n)) b (x, v)

  after_tree : (t : Tree) → substitute after t ≡ substitute put (substitute (solved b) t)
  unfolding after
  after_tree t = sym (substitute_in_turn put (solved b) t)

  now_bound : bound (b ++ (x, v) ∷ []) x ≡ Some v
  now_bound = bound-push_none b (x, v) x free ∙ single_here x v

  still_free : (m : ℕ) → bound b m ≡ None → (m ≡ x → ⊥) → bound (b ++ (x, v) ∷ []) m ≡ None
  still_free m e other =
      bound-push_none b (x, v) m e ∙ elim (single_cases x v m) [ inl k ↦ absurd (other k.0) | inr k ↦ k.1 ]

  was_free : (m : ℕ) → bound (b ++ (x, v) ∷ []) m ≡ None → bound b m ≡ None
  was_free m e =
      elim (cases_option (bound b m)) [ inl k ↦ k | inr w ↦ let d = bound-push_some b (x, v) m w.0 w.1 in cc ]

  -- what is bound now
  bound_cases : (n : ℕ) (t : Tree) → bound (b ++ (x, v) ∷ []) n ≡ Some t → (bound b n ≡ Some t) ⊎ ((n ≡ x) × (t ≡ v))
  bound_cases n t e =
      elim (cases_option (bound b n)) [
        | inl k ↦ elim (single_cases x v n) [
          | inl d ↦ inr (d.0, let q : Some t ≡ Some v = sym e ∙ bound-push_none b (x, v) n k ∙ d.1 in cc)
          | inr d ↦ let q : Some t ≡ None = sym e ∙ bound-push_none b (x, v) n k ∙ d.1 in cc
        ]
        | inr w ↦ let q : Some t ≡ Some w.0 = sym e ∙ bound-push_some b (x, v) n w.0 w.1 in inl (w.1 ∙ sym q)
      ]

  pub held_push : (m : ℕ) → IsHeld b m → IsHeld (b ++ (x, v) ∷ []) m
  held_push m k = (k.0, k.1, bound-push_some b (x, v) k.0 k.1 k.2, k.3)

  pub held_cases : (m : ℕ) → IsHeld (b ++ (x, v) ∷ []) m → IsHeld b m ⊎ ((m ≡ x) ⊎ StandsIn (var m) v)
  held_cases m k =
      elim (bound_cases k.0 k.1 k.2) [
        | inl e ↦ inl (k.0, k.1, e, k.3)
        | inr d ↦ inr (elim k.3 [ inl o ↦ inl (o ∙ d.0) | inr o ↦ inr (subst (λ t. StandsIn (var m) t) d.1 o) ])
      ]

  pub fulfils_before : (r : ℕ → Tree) → Fulfils r (b ++ (x, v) ∷ []) → Fulfils r b
  fulfils_before r f n t e = f n t (bound-push_some b (x, v) n t e)

  pub fulfils_here : (r : ℕ → Tree) → Fulfils r (b ++ (x, v) ∷ []) → r x ≡ substitute r v
  fulfils_here r f = f x v now_bound

  pub fulfils_push : (r : ℕ → Tree) → Fulfils r b → r x ≡ substitute r v → Fulfils r (b ++ (x, v) ∷ [])
  fulfils_push r f e n t k =
      elim (bound_cases n t k) [ inl d ↦ f n t d | inr d ↦ ap r d.0 ∙ e ∙ ap (substitute r) (sym d.1) ]

  -- the variable in what it would become
  pub cycle_is_unsolvable : IsResolved b v → (v ≡ leaf (var x) → ⊥) → StandsIn (var x) (substitute (solved b) v) → (r : ℕ → Tree) → Fulfils r b → r x ≡ substitute r v → ⊥
  cycle_is_unsolvable loose other k r f e =
      occurs_check r x (substitute (solved b) v) k (λ d. other (resolved_variable b h v loose x d)) (e ∙ sym (general_tree b h r f v))

  module _ (loose : IsResolved b v) (absent : ¬ StandsIn (var x) (substitute (solved b) v)) where
    put_stays : (t : Tree) → ¬ StandsIn (var x) t → substitute put t ≡ t
    put_stays t none =
        substitute_stays put t
        (λ n k. elim (put_at n) [ inl d ↦ absurd (none (subst (λ m. StandsIn (var m) t) d.0 k)) | inr d ↦ d.1 ])

    other_tree : v ≡ leaf (var x) → ⊥
    other_tree e =
        absent (subst (λ t. StandsIn (var x) t) (sym (ap (substitute (solved b)) e ∙ h.stays x free)) itself)

    fulfilled_after : Fulfils after (b ++ (x, v) ∷ [])
    unfolding after
    fulfilled_after n t e =
        elim (bound_cases n t e) [
          | inl k ↦ ap (substitute put) (h.fulfilled n t k) ∙ sym (after_tree t)
          | inr d ↦
              let a : substitute put (solved b n) ≡ substitute (solved b) v = ap (λ m. substitute put (solved b m)) d.0 ∙ ap (substitute put) (h.stays x free) ∙ put_here in
              a ∙ sym (put_stays (substitute (solved b) v) absent) ∙ sym (after_tree v) ∙ ap (substitute after) (sym d.1)
        ]

    general_after : (r : ℕ → Tree) → Fulfils r (b ++ (x, v) ∷ []) → (n : ℕ) → substitute r (after n) ≡ r n
    unfolding after
    general_after r f n =
        let before = fulfils_before r f in
        let here : substitute r (put x) ≡ r x = ap (substitute r) put_here ∙ general_tree b h r before v ∙ sym (fulfils_here r f) in
        substitute_in_turn r put (solved b n)
        ∙ substitute_agrees (λ m. substitute r (put m)) r (solved b n)
        (λ m k. elim (put_at m) [ inl d ↦ ap (λ j. substitute r (put j)) d.0 ∙ here ∙ ap r (sym d.0) | inr d ↦ ap (substitute r) d.1 ])
        ∙ h.general r before n

    stays_after : (n : ℕ) → bound (b ++ (x, v) ∷ []) n ≡ None → after n ≡ leaf (var n)
    unfolding after
    stays_after n e =
        ap (substitute put) (h.stays n (was_free n e))
        ∙ elim (put_at n) [ inl d ↦ let q : Some v ≡ None = sym now_bound ∙ ap (bound (b ++ (x, v) ∷ [])) (sym d.0) ∙ e in cc | inr d ↦ d.1 ]

    -- a variable of what a variable becomes now
    stands_after : (n m : ℕ) → StandsIn (var m) (after n) → StandsIn (var m) (substitute (solved b) v) ⊎ (StandsIn (var m) (solved b n) × (m ≡ x → ⊥))
    unfolding after
    stands_after n m k =
        let j = variable_of_instance put m (solved b n) k in
        elim (put_at j.0) [
          | inl d ↦ inl (subst (λ t. StandsIn (var m) t) d.1 j.2)
          | inr d ↦
              let e : m ≡ j.0 = in_var j.0 m (subst (λ t. StandsIn (var m) t) d.1 j.2) in
              inr (subst (λ i. StandsIn (var i) (solved b n)) (sym e) j.1, λ q. d.0 (sym e ∙ q))
        ]

    open_after : (n m : ℕ) → StandsIn (var m) (after n) → bound (b ++ (x, v) ∷ []) m ≡ None
    open_after n m k =
        elim (stands_after n m k) [
          | inl o ↦
              let j = variable_of_instance (solved b) m v o in
              still_free m (h.is_open j.0 m j.2) (λ d. absent (subst (λ i. StandsIn (var i) (substitute (solved b) v)) d o))
          | inr o ↦ still_free m (h.is_open n m o.0) o.1
        ]

    within_after : (n m : ℕ) → StandsIn (var m) (after n) → (m ≡ n) ⊎ IsHeld (b ++ (x, v) ∷ []) m
    within_after n m k =
        elim (stands_after n m k) [
          | inl o ↦
              let j = variable_of_instance (solved b) m v o in
              elim (h.within j.0 m j.2) [
                | inl e ↦ inr (x, v, now_bound, inr (subst (λ i. StandsIn (var i) v) (sym e) j.1))
                | inr w ↦ inr (held_push m w)
              ]
          | inr o ↦ elim (h.within n m o.0) [ inl e ↦ inl e | inr w ↦ inr (held_push m w) ]
        ]

    links_here : (t : Tree) → t ≡ v → links (b ++ (x, v) ∷ []) t ≡ 0
    links_here (leaf (var k)) e =
        let d = loose k (sym e) in
        links_of_push_free (x, v) b k d
        ∙ elim (cases_Bool (nat_eq k x)) [
          | inl c ↦ absurd (other_tree (sym e ∙ ap (λ i. leaf (var i)) (eqb-true k x c)))
          | inr c ↦ rw c refl
        ]
    links_here (leaf (public k)) e = refl
    links_here (leaf (private k)) e = refl
    links_here (leaf (ax k)) e = refl
    links_here (leaf (entry k)) e = refl
    links_here (leaf (rigid k)) e = refl
    links_here (app f ts) e = refl

    links_now : links_of (b ++ (x, v) ∷ []) x ≡ 1
    links_now = links_of_push_free (x, v) b x free ∙ rw (eq-eqb x x refl) refl

    goes_on_after : (n : ℕ) (t : Tree) → bound (b ++ (x, v) ∷ []) n ≡ Some t → links (b ++ (x, v) ∷ []) t < links_of (b ++ (x, v) ∷ []) n
    goes_on_after n t e =
        elim (bound_cases n t e) [
          | inl k ↦ omega (arith, links_push_le (x, v) b t, h.goes_on n t k, links_of_push_bound (x, v) b n t k)
          | inr d ↦ omega (arith, links_here t d.1, links_now, ap (links_of (b ++ (x, v) ∷ [])) d.0)
        ]

    pub chain_push : IsChain (b ++ (x, v) ∷ [])
    chain_push = record {
      fulfilled = subst (λ z. Fulfils z (b ++ (x, v) ∷ [])) (sym solved-push) fulfilled_after;
      general = subst (λ (z : ℕ → Tree). (r : ℕ → Tree) → Fulfils r (b ++ (x, v) ∷ []) → (n : ℕ) → substitute r (z n) ≡ r n) (sym solved-push) general_after;
      stays = subst (λ (z : ℕ → Tree). (n : ℕ) → bound (b ++ (x, v) ∷ []) n ≡ None → z n ≡ leaf (var n)) (sym solved-push) stays_after;
      is_open = subst (λ (z : ℕ → Tree). (n m : ℕ) → StandsIn (var m) (z n) → bound (b ++ (x, v) ∷ []) m ≡ None) (sym solved-push) open_after;
      within = subst (λ (z : ℕ → Tree). (n m : ℕ) → StandsIn (var m) (z n) → (m ≡ n) ⊎ IsHeld (b ++ (x, v) ∷ []) m) (sym solved-push) within_after;
      goes_on = goes_on_after;
    }

    module _ (levels : List (ℕ × ℕ)) (least : IsLeast levels b) (first : (y : ℕ) → v ≡ leaf (var y) → Precedes levels y x) where
      least_after : (n y : ℕ) → after n ≡ leaf (var y) → (n ≡ y) ⊎ Precedes levels y n
      unfolding after
      least_after n y e =
          let k = var_before put (solved b n) y e in
          let a : put k.0 ≡ leaf (var y) = ap (substitute put) (sym k.1) ∙ e in
          elim (put_at k.0) [
            | inl d ↦
                let g : Precedes levels y x = first y (resolved_variable b h v loose y (sym d.1 ∙ a)) in
                elim (least n k.0 k.1) [
                  | inl q ↦ inr (subst (λ m. Precedes levels y m) (sym (q ∙ d.0)) g)
                  | inr q ↦ inr (precedes_trans levels y x n g (subst (λ m. Precedes levels m n) d.0 q))
                ]
            | inr d ↦ let q : k.0 ≡ y = (let c : leaf (var k.0) ≡ leaf (var y) = sym d.1 ∙ a in cc) in least n y (k.1 ∙ ap (λ m. leaf (var m)) q)
          ]

      pub least_push : IsLeast levels (b ++ (x, v) ∷ [])
      least_push = subst (λ (z : ℕ → Tree). (n y : ℕ) → z n ≡ leaf (var y) → (n ≡ y) ⊎ Precedes levels y n) (sym solved-push) least_after

-- u is what the tree t is bound to, as far as it was followed
pub record Follows (bindings : List (ℕ × Tree)) (t u : Tree) : Type 0 where
  pub same : (r : ℕ → Tree) → Fulfils r bindings → substitute r u ≡ substitute r t
  pub within : (n : ℕ) → StandsIn (var n) u → StandsIn (var n) t ⊎ IsHeld bindings n
