-- Pairs of terms that are to become equal.
use Rattle.std.proofs.Common.{◌≡◌, ℕ, zero, suc, ◌+◌, ◌<◌, ◌≤◌, List, [], ◌∷◌, ◌++◌, length, take, Some, refl, sym, ◌∙◌, ap, arith, ◌⊎◌, inl, inr, subst, add-one, append_assoc}
use Rattle.std.specs.Prelude.{slice_get, ◌↔◌}
use Rattle.std.specs.List.{zip, Any}
use Rattle.std.proofs.lemmas.List.{take_all, map-append}
use Rattle.std.proofs.lemmas.List.Elements.{All-nil, All-cons, All-head, All-tail}
use Rattle.std.proofs.lemmas.Option.{none-some}
use Rattle.dps_terms.specs.Tree.{var, Tree, Trees, leaf, app, none, more, list_of, node_count, node_counts, StandsIn}
use Rattle.dps_terms.specs.Replace.{substitute, substitute_all}
use Rattle.dps_terms.specs.Views.{arguments, HaveSameRoot}
use Rattle.dps_terms.specs.Seen.{seen}
use Rattle.dps_unify.specs.Unifier.{Unifies, IsVariableOf}
use Rattle.dps_unify.specs.Chain.{Fulfils, solved, IsHeld, IsChain, Resolves}
use Rattle.dps_unify.specs.Difference.{pairs_of, Remains, IsDifference}
use Rattle.dps_unify.specs.declared.difference.Parts.{Parts}
use Rattle.dps_unify.proofs.Trees.{unified_arguments, stands_in_argument}

-- pairs one behind another
pub unifies-append : (r : ℕ → Tree) (ps qs : List (Tree × Tree)) → Unifies r (ps ++ qs) ↔ (Unifies r ps × Unifies r qs)
unifies-append r [] qs = (λ h. (All-nil (λ p. substitute r p.0 ≡ substitute r p.1), h), λ h. h.1)
unifies-append r (p ∷ ps) qs =
    let P = λ (q : Tree × Tree). substitute r q.0 ≡ substitute r q.1 in
    let rest = unifies-append r ps qs in (
      λ h. let k = rest.0 (All-tail P p (ps ++ qs) h) in (All-cons P p ps (All-head P p (ps ++ qs) h) k.0, k.1),
      λ h. All-cons P p (ps ++ qs) (All-head P p ps h.0) (rest.1 (All-tail P p ps h.0, h.1)),
    )

pub unifies_one : (r : ℕ → Tree) (p : Tree × Tree) → Unifies r (p ∷ []) ↔ (substitute r p.0 ≡ substitute r p.1)
unifies_one r p =
    let P = λ (q : Tree × Tree). substitute r q.0 ≡ substitute r q.1 in (λ h. All-head P p [] h, λ e. All-cons P p [] e (All-nil P))

pub any_first : {X : Type 0} (P : X → Type 0) (x : X) (xs : List X) → P x → Any P (x ∷ xs)
any_first P x xs h = (0, x, omega arith, refl, h)

pub any_rest : {X : Type 0} (P : X → Type 0) (x : X) (xs : List X) → Any P xs → Any P (x ∷ xs)
any_rest P x xs h = let below = h.2 in (suc h.0, h.1, omega arith, h.3, h.4)

pub any_cases : {X : Type 0} (P : X → Type 0) (x : X) (xs : List X) → Any P (x ∷ xs) → P x ⊎ Any P xs
any_cases P x xs (zero, y, below, at, h) = inl (subst P (sym at) h)
any_cases P x xs (suc k, y, below, at, h) = inr (k, y, omega arith, at, h)

pub any_none : {X : Type 0} (P : X → Type 0) → Any P [] → ⊥
any_none P (k, y, below, at, h) = omega arith

pub any_append : {X : Type 0} (P : X → Type 0) (xs ys : List X) → Any P (xs ++ ys) → Any P xs ⊎ Any P ys
any_append P [] ys h = inr h
any_append P (x ∷ xs) ys h =
    elim (any_cases P x (xs ++ ys) h) [
      | inl k ↦ inl (any_first P x xs k)
      | inr k ↦ elim (any_append P xs ys k) [ inl l ↦ inl (any_rest P x xs l) | inr l ↦ inr l ]
    ]

pub any_left : {X : Type 0} (P : X → Type 0) (xs ys : List X) → Any P xs → Any P (xs ++ ys)
any_left P [] ys h = absurd (any_none P h)
any_left P (x ∷ xs) ys h =
    elim (any_cases P x xs h) [ inl k ↦ any_first P x (xs ++ ys) k | inr k ↦ any_rest P x (xs ++ ys) (any_left P xs ys k) ]

pub any_right : {X : Type 0} (P : X → Type 0) (xs ys : List X) → Any P ys → Any P (xs ++ ys)
any_right P [] ys h = h
any_right P (x ∷ xs) ys h = any_rest P x (xs ++ ys) (any_right P xs ys h)

abbrev pub StandsInPair : ℕ → Tree × Tree → Type 0
StandsInPair n p = StandsIn (var n) p.0 ⊎ StandsIn (var n) p.1

-- the pairs of the arguments
pub zip_next : (xs ys : List Tree) (i : ℕ) (x y : Tree) → slice_get xs i ≡ Some x → slice_get ys i ≡ Some y → take (suc i) (zip xs ys) ≡ take i (zip xs ys) ++ (x, y) ∷ []
zip_next [] ys i x y e d = absurd (none-some x e)
zip_next (a ∷ xs) [] i x y e d = absurd (none-some y d)
zip_next (a ∷ xs) (c ∷ ys) zero x y e d = let f : a ≡ x = cc in let g : c ≡ y = cc in λ j. (f j, g j) ∷ []
zip_next (a ∷ xs) (c ∷ ys) (suc i) x y e d = ap (λ r. (a, c) ∷ r) (zip_next xs ys i x y e d)

pub length-zip : (xs ys : List Tree) → length (zip xs ys) ≤ length xs
length-zip [] ys = omega arith
length-zip (x ∷ xs) [] = omega arith
length-zip (x ∷ xs) (y ∷ ys) = omega (arith, length-zip xs ys)

zip_variable : (n : ℕ) (xs ys : List Tree) → Any (StandsInPair n) (zip xs ys)
    → ((i : ℕ) × (t : Tree) × (slice_get xs i ≡ Some t) × StandsIn (var n) t) ⊎ ((i : ℕ) × (t : Tree) × (slice_get ys i ≡ Some t) × StandsIn (var n) t)
zip_variable n [] ys h = absurd (any_none (StandsInPair n) h)
zip_variable n (x ∷ xs) [] h = absurd (any_none (StandsInPair n) h)
zip_variable n (x ∷ xs) (y ∷ ys) h =
    elim (any_cases (StandsInPair n) (x, y) (zip xs ys) h) [
      | inl k ↦ elim k [ inl o ↦ inl (0, x, refl, o) | inr o ↦ inr (0, y, refl, o) ]
      | inr k ↦ elim (zip_variable n xs ys k) [
        | inl o ↦ inl (suc o.0, o.1, o.2, o.3)
        | inr o ↦ inr (suc o.0, o.1, o.2, o.3)
      ]
    ]

argument_variable : (n : ℕ) (a c : Tree) → Any (StandsInPair n) (zip (arguments a) (arguments c)) → StandsIn (var n) a ⊎ StandsIn (var n) c
argument_variable n a c h =
    elim (zip_variable n (arguments a) (arguments c) h) [
      | inl o ↦ inl (stands_in_argument (var n) a o.0 o.1 o.2 o.3)
      | inr o ↦ inr (stands_in_argument (var n) c o.0 o.1 o.2 o.3)
    ]

-- the nodes of the left terms
abbrev pub weight : (ℕ → Tree) → List (Tree × Tree) → ℕ
weight z [] = 0
weight z (p ∷ ps) = node_count (substitute z p.0) + weight z ps

pub weight-append : (z : ℕ → Tree) (ps qs : List (Tree × Tree)) → weight z (ps ++ qs) ≡ weight z ps + weight z qs
weight-append z [] qs = omega arith
weight-append z (p ∷ ps) qs = omega (arith, weight-append z ps qs)

pub has_nodes : (t : Tree) → 1 ≤ node_count t
has_nodes (leaf x) = omega arith
has_nodes (app f ts) = omega arith

weight_all : (z : ℕ → Tree) (ts : Trees) (ys : List Tree) → weight z (zip (list_of ts) ys) ≤ node_counts (substitute_all z ts)
weight_all z none ys = omega arith
weight_all z (more t ts) [] = omega arith
weight_all z (more t ts) (y ∷ ys) = omega (arith, weight_all z ts ys)

pub weight_arguments : (z : ℕ → Tree) (t : Tree) (ys : List Tree) → weight z (zip (arguments t) ys) < node_count (substitute z t)
weight_arguments z (leaf x) ys = omega (arith, has_nodes (substitute z (leaf x)))
weight_arguments z (app f ts) ys = omega (arith, weight_all z ts ys)

module _ (b : List (ℕ × Tree)) (before now rest : List (Tree × Tree)) (t u a c : Tree) (h : Remains b before now) (is : now ≡ rest ++ (t, u) ∷ []) (left : Resolves b t a)
    (right : Resolves b u c) where
  -- the pair and those before it
  apart_now : (r : ℕ → Tree) → Fulfils r b → Unifies r now ↔ (Unifies r rest × (substitute r a ≡ substitute r c))
  apart_now r f =
      let ends = unifies-append r rest ((t, u) ∷ []) in
      let one = unifies_one r (t, u) in (
        λ k. let l = ends.0 (subst (Unifies r) is k) in (l.0, left.same r f ∙ one.0 l.1 ∙ sym (right.same r f)),
        λ k. subst (Unifies r) (sym is) (ends.1 (k.0, one.1 (sym (left.same r f) ∙ k.1 ∙ right.same r f))),
      )

  in_rest : (n : ℕ) → IsVariableOf rest n → IsVariableOf before n ⊎ IsHeld b n
  in_rest n k = h.within n (subst (λ ps. IsVariableOf ps n) (sym is) (any_left (StandsInPair n) rest ((t, u) ∷ []) k))

  in_pair : (n : ℕ) → StandsInPair n (t, u) → IsVariableOf before n ⊎ IsHeld b n
  in_pair n k =
      h.within n (subst (λ ps. IsVariableOf ps n) (sym is) (any_right (StandsInPair n) rest ((t, u) ∷ []) (any_first (StandsInPair n) (t, u) [] k)))

  in_parts : (n : ℕ) → StandsIn (var n) a ⊎ StandsIn (var n) c → IsVariableOf before n ⊎ IsHeld b n
  in_parts n (inl k) = elim (left.within n k) [ inl o ↦ in_pair n (inl o) | inr o ↦ inr o ]
  in_parts n (inr k) = elim (right.within n k) [ inl o ↦ in_pair n (inr o) | inr o ↦ inr o ]

  pub difference_found : ¬ HaveSameRoot a c → IsDifference b before rest a c
  difference_found apart = record {
    apart = apart;
    left = left.resolved;
    right = right.resolved;
    same = λ r f. let before_now = h.same r f in let split = apart_now r f in (λ k. split.0 (before_now.0 k), λ k. before_now.1 (split.1 k));
    within_pairs = in_rest;
    within_parts = in_parts;
  }

  module _ (after : List (Tree × Tree)) (is_after : after ≡ rest ++ zip (arguments a) (arguments c)) where
    pub remains_more : HaveSameRoot a c → Remains b before after
    remains_more alike = record {
      same = λ r f.
          let before_now = h.same r f in
          let split = apart_now r f in
          let ends = unifies-append r rest (zip (arguments a) (arguments c)) in
          let below = unified_arguments r a c alike in (
            λ k. let l = split.0 (before_now.0 k) in subst (Unifies r) (sym is_after) (ends.1 (l.0, below.0 l.1)),
            λ k. let l = ends.0 (subst (Unifies r) is_after k) in before_now.1 (split.1 (l.0, below.1 l.1)),
          );
      within = λ n k.
          elim (any_append (StandsInPair n) rest (zip (arguments a) (arguments c)) (subst (λ ps. IsVariableOf ps n) is_after k)) [
            | inl o ↦ in_rest n o
            | inr o ↦ in_parts n (argument_variable n a c o)
          ];
    }

    pub weight_falls : IsChain b → weight (solved b) after < weight (solved b) now
    weight_falls chain =
        omega (
          arith,
          ap (weight (solved b)) is,
          ap (weight (solved b)) is_after,
          weight-append (solved b) rest ((t, u) ∷ []),
          weight-append (solved b) rest (zip (arguments a) (arguments c)),
          weight_arguments (solved b) a (arguments c),
          ap node_count (left.same (solved b) chain.fulfilled),
        )

-- borrowed pairs, one more
pub pairs_push : (ds : List Parts) (d : Parts) → pairs_of (ds ++ d ∷ []) ≡ pairs_of ds ++ (seen d.left, seen d.right) ∷ []
pairs_push ds d = map-append (λ (e : Parts). (seen e.left, seen e.right)) ds (d ∷ [])

pub pushed_next : (start now : List Parts) (d : Parts) (after : List Parts) (xs ys : List Tree) (i : ℕ) → pairs_of now ≡ pairs_of start ++ take i (zip xs ys) → after ≡ now ++ d ∷ []
    → slice_get xs i ≡ Some (seen d.left) → slice_get ys i ≡ Some (seen d.right) → pairs_of after ≡ pairs_of start ++ take (i + 1) (zip xs ys)
pushed_next start now d after xs ys i h e l r =
    ap pairs_of e ∙ pairs_push now d ∙ ap (λ ps. ps ++ (seen d.left, seen d.right) ∷ []) h
    ∙ append_assoc (pairs_of start) (take i (zip xs ys)) ((seen d.left, seen d.right) ∷ [])
    ∙ ap (λ ps. pairs_of start ++ ps) (sym (zip_next xs ys i (seen d.left) (seen d.right) l r) ∙ ap (λ k. take k (zip xs ys)) (sym (add-one i)))

pub pushed_all : (start now : List Parts) (xs ys : List Tree) (i : ℕ) → pairs_of now ≡ pairs_of start ++ take i (zip xs ys) → length xs ≤ i → pairs_of now ≡ pairs_of start ++ zip xs ys
pushed_all start now xs ys i h l = h ∙ ap (λ ps. pairs_of start ++ ps) (take_all i (zip xs ys) (omega (arith, length-zip xs ys)))
