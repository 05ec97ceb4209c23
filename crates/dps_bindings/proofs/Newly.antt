-- Variables of pairs, and those that are newly bound.
use Rattle.std.proofs.Common.{◌≡◌, ℕ, ◌+◌, ◌<◌, ◌≤◌, List, [], ◌∷◌, ◌++◌, length, slice_get, get_or, Some, Contains, AllPairs, ◌⊎◌, inl, inr, sym, ◌∙◌, ap, subst, arith}
use Rattle.std.specs.Prelude.{◌↔◌}
use Rattle.std.proofs.lemmas.Bool.{cases_lt}
use Rattle.std.proofs.lemmas.Option.{slice_get_within, get_or_from_slice_get, slice_get-get_or}
use Rattle.std.proofs.lemmas.List.Quantifiers.{all_pairs_push}
use Rattle.dps_terms.specs.Tree.{var, Tree, leaf, StandsIn}
use Rattle.dps_terms.specs.Replace.{substitute}
use Rattle.dps_terms.specs.Bindings.{bound, image}
use Rattle.dps_terms.specs.Variables.{variables}
use Rattle.dps_terms.proofs.Listing.{variables_are_those}
use Rattle.dps_unify.proofs.Bound.{cases_option, image_none}
use Rattle.dps_unify.specs.Order.{level_of}
use Rattle.dps_unify.specs.Unifier.{IsVariableOf}
use Rattle.dps_know.proofs.Listing.{in_left, in_right, in_append, in_cons, in_none, in_head}
use Rattle.dps_solver.specs.Search.{AreNewlyBound}
use Rattle.dps_solver.proofs.Each.{place_in, contains_at}

-- the variables of the first i pairs are found
abbrev pub AreFound : List (Tree × Tree) → ℕ → List ℕ → Type 0
AreFound pairs i found =
    (j : ℕ) (p : Tree × Tree) → j < i → slice_get pairs j ≡ Some p → (n : ℕ) → (StandsIn (var n) p.0 ⊎ StandsIn (var n) p.1) → Contains found n

below_none : (j : ℕ) → j < 0 → ⊥
below_none j l = omega (arith, l)

pub found_none : (pairs : List (Tree × Tree)) (found : List ℕ) → AreFound pairs 0 found
found_none pairs found j p l = absurd (below_none j l)

pub found_more :
    (pairs : List (Tree × Tree)) (i : ℕ) (p : Tree × Tree) (found first second : List ℕ) → AreFound pairs i found → slice_get pairs i ≡ Some p
    → first ≡ found ++ variables p.0 → second ≡ first ++ variables p.1 → AreFound pairs (i + 1) second
found_more pairs i p found first second h there e f j q l at n s =
    let whole : (found ++ variables p.0) ++ variables p.1 ≡ second = sym (f ∙ ap (λ ns. ns ++ variables p.1) e) in
    elim (cases_lt j i) [
      | inl below ↦ subst (λ ns. Contains ns n) whole (in_left n (found ++ variables p.0) (variables p.1) (in_left n found (variables p.0) (h j q below at n s)))
      | inr above ↦
          let here : j ≡ i = omega (arith, l, above) in
          let same : Some q ≡ Some p = sym at ∙ ap (slice_get pairs) here ∙ there in
          let is : q ≡ p = cc in
          subst (λ ns. Contains ns n) whole
          (elim (subst (λ (o : Tree × Tree). StandsIn (var n) o.0 ⊎ StandsIn (var n) o.1) is s) [
            | inl k ↦ in_left n (found ++ variables p.0) (variables p.1) (in_right n found (variables p.0) ((variables_are_those p.0 n).1 k))
            | inr k ↦ in_right n (found ++ variables p.0) (variables p.1) ((variables_are_those p.1 n).1 k)
          ])
    ]

pub found_all : (pairs : List (Tree × Tree)) (i : ℕ) (found : List ℕ) → AreFound pairs i found → length pairs ≤ i → (n : ℕ) → IsVariableOf pairs n → Contains found n
found_all pairs i found h l n a =
    let at = place_in pairs a.1 (a.0, a.2, a.3) in
    h at.0 a.1 (omega (arith, l, slice_get_within pairs at.0 a.1 at.1)) at.1 n a.4

-- a variable is newly bound at its level
abbrev pub IsNew : List (ℕ × ℕ) → (ℕ → Tree) → (ℕ → Tree) → ℕ → ℕ → Type 0
IsNew levels before after n l = (level_of levels n ≡ Some l) × (before n ≡ leaf (var n)) × ¬ (after n ≡ leaf (var n))

-- those of the first i variables that are newly bound
pub record AreListed (levels : List (ℕ × ℕ)) (before after : ℕ → Tree) (xs : List ℕ) (i : ℕ) (bound : List (ℕ × ℕ)) : Type 0 where
  pub ascending : AllPairs (λ p q. p.0 < q.0) bound
  pub those : (p : ℕ × ℕ) → Contains bound p ↔ (((j : ℕ) × (j < i) × (slice_get xs j ≡ Some p.0)) × IsNew levels before after p.0 p.1)

module _ (levels : List (ℕ × ℕ)) (before after : ℕ → Tree) (xs : List ℕ) where
  pub listed_none : AreListed levels before after xs 0 []
  listed_none = record {
    ascending = λ i j d l m. absurd (omega (arith, m));
    those = λ p. (λ c. absurd (in_none p c), λ h. absurd (below_none h.0.0 h.0.1));
  }

  pub listed_same : (i x : ℕ) (bound : List (ℕ × ℕ)) → AreListed levels before after xs i bound → slice_get xs i ≡ Some x
      → ((l : ℕ) → ¬ IsNew levels before after x l) → AreListed levels before after xs (i + 1) bound
  listed_same i x bound h there not = record {
    ascending = h.ascending;
    those = λ p. (
      λ c. let k = (h.those p).0 c in ((k.0.0, omega (arith, k.0.1), k.0.2), k.1),
      λ k. elim (cases_lt k.0.0 i) [
        | inl below ↦ (h.those p).1 ((k.0.0, below, k.0.2), k.1)
        | inr above ↦
            let here : k.0.0 ≡ i = omega (arith, k.0.1, above) in
            let same : Some p.0 ≡ Some x = sym k.0.2 ∙ ap (slice_get xs) here ∙ there in
            let is : p.0 ≡ x = cc in
            absurd (not p.1 (subst (λ n. IsNew levels before after n p.1) is k.1))
      ],
    );
  }

  module _ (up : AllPairs (λ m n. m < n) xs) (i x l : ℕ) (bound : List (ℕ × ℕ)) (h : AreListed levels before after xs i bound)
      (there : slice_get xs i ≡ Some x) (new : IsNew levels before after x l) where
    below_it : (p : ℕ × ℕ) → Contains bound p → p.0 < x
    below_it p c =
        let k = ((h.those p).0 c).0 in
        let first : get_or xs k.0 x ≡ p.0 = get_or_from_slice_get xs k.0 p.0 x k.2 in
        let second : get_or xs i x ≡ x = get_or_from_slice_get xs i x x there in
        let less : get_or xs k.0 x < get_or xs i x = up k.0 i x k.1 (slice_get_within xs i x there) in
        omega (arith, first, second, less)

    at_place : (k : ℕ) (d : ℕ × ℕ) → k < length bound → (get_or bound k d).0 < x
    at_place k d m = below_it (get_or bound k d) (contains_at bound k (get_or bound k d) (slice_get-get_or bound k d m))

    only_level : (m : ℕ) → IsNew levels before after x m → m ≡ l
    only_level m k = let e : Some m ≡ Some l = sym k.0 ∙ new.0 in cc

    pub listed_more : AreListed levels before after xs (i + 1) (bound ++ (x, l) ∷ [])
    listed_more = record {
      ascending = all_pairs_push (λ (p q : ℕ × ℕ). p.0 < q.0) bound (x, l) h.ascending at_place;
      those = λ p. (
        λ c. elim (in_append p bound ((x, l) ∷ []) c) [
          | inl old ↦ let k = (h.those p).0 old in ((k.0.0, omega (arith, k.0.1), k.0.2), k.1)
          | inr last ↦ elim (in_cons p (x, l) [] last) [
            | inl e ↦ ((i, omega arith, there ∙ ap (λ (q : ℕ × ℕ). Some q.0) (sym e)), subst (λ (q : ℕ × ℕ). IsNew levels before after q.0 q.1) (sym e) new)
            | inr k ↦ absurd (in_none p k)
          ]
        ],
        λ k. elim (cases_lt k.0.0 i) [
          | inl below ↦ in_left p bound ((x, l) ∷ []) ((h.those p).1 ((k.0.0, below, k.0.2), k.1))
          | inr above ↦
              let here : k.0.0 ≡ i = omega (arith, k.0.1, above) in
              let same : Some p.0 ≡ Some x = sym k.0.2 ∙ ap (slice_get xs) here ∙ there in
              let is : p.0 ≡ x = cc in
              let level : p.1 ≡ l = only_level p.1 (subst (λ n. IsNew levels before after n p.1) is k.1) in
              in_right p bound ((x, l) ∷ []) (subst (λ q. Contains ((x, l) ∷ []) q) (λ j. (sym is j, sym level j)) (in_head (x, l) []))
        ],
      );
    }

  pub listed_all : (i : ℕ) (bound : List (ℕ × ℕ)) → AreListed levels before after xs i bound → length xs ≤ i
      → ((n : ℕ) → before n ≡ leaf (var n) → ¬ (after n ≡ leaf (var n)) → Contains xs n) → AreNewlyBound levels before after bound
  listed_all i bound h l all = record {
    ascending = h.ascending;
    those = λ p. (
      λ c. ((h.those p).0 c).1,
      λ k. let at = place_in xs p.0 (all p.0 k.1 k.2) in
          (h.those p).1 ((at.0, omega (arith, l, slice_get_within xs at.0 p.0 at.1), at.1), k),
    );
  }

-- what a unifier changes is bound by it
pub moved_is_bound : (u : List (ℕ × Tree)) (before : ℕ → Tree) (n : ℕ) → before n ≡ leaf (var n) → ¬ (substitute (image u) (before n) ≡ leaf (var n))
    → (t : Tree) × (bound u n ≡ Some t)
moved_is_bound u before n e moved =
    elim (cases_option (bound u n)) [
      | inl none ↦ absurd (moved (ap (substitute (image u)) e ∙ image_none u n none))
      | inr some ↦ some
    ]
