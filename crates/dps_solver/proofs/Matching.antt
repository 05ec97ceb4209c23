-- Pairs that are matched one after the other.
use Rattle.std.proofs.Common.{◌≡◌, ℕ, ◌+◌, ◌<◌, ◌≤◌, List, [], length, slice_get, map, Bool}
use Rattle.std.proofs.Common.{true, false, Some, Contains, sym, ap, ◌∙◌, subst, inl, inr, ◌⊎◌, arith}
use Rattle.std.specs.Prelude.{MatchBool}
use Rattle.std.proofs.lemmas.Bool.{cases_lt}
use Rattle.std.proofs.lemmas.Option.{slice_get_within}
use Rattle.dps_terms.specs.Tree.{Tree}
use Rattle.dps_terms.specs.Replace.{substitute}
use Rattle.dps_terms.specs.Bindings.{bound, image}
use Rattle.dps_unify.specs.Matching.{Keeps, Agrees, Matched, Refused}
use Rattle.dps_unify.proofs.Bound.{cases_option, image_none, image_some}
use Rattle.dps_know.proofs.Listing.{all_of, mapped_contains}
use Rattle.dps_solver.proofs.Each.{all_in, contains_at, place_in, unmapped}
use Rattle.dps_solver.specs.Solutions.{IsMatched}

-- with z put in, r makes the pattern the tree
abbrev pub Makes : (ℕ → Tree) → (ℕ → Tree) → Tree × Tree → Type 0
Makes z r p = substitute r (substitute z p.1) ≡ substitute z p.0

-- what the solution is after the first pairs
pub record IsSolvedBy (free : List ℕ) (z : ℕ → Tree) (pairs : List (Tree × Tree)) (i : ℕ) (s : List (ℕ × Tree)) : Type 0 where
  pub within : (n : ℕ) (v : Tree) → bound s n ≡ Some v → Contains free n
  pub makes : (r : ℕ → Tree) → Keeps free r → Agrees r s → (j : ℕ) → j < i → (p : Tree × Tree) → slice_get pairs j ≡ Some p → Makes z r p
  pub forced : (r : ℕ → Tree) → Keeps free r → ((j : ℕ) → j < i → (p : Tree × Tree) → slice_get pairs j ≡ Some p → Makes z r p) → Agrees r s

none_bound : (n : ℕ) (v : Tree) → bound [] n ≡ Some v → ⊥
none_bound n v e = cc

below_none : (j : ℕ) → j < 0 → ⊥
below_none j l = omega (arith, l)

pub solved_none : (free : List ℕ) (z : ℕ → Tree) (pairs : List (Tree × Tree)) (s : List (ℕ × Tree)) → s ≡ [] → IsSolvedBy free z pairs 0 s
solved_none free z pairs s e = record {
  within = λ n v b. absurd (none_bound n v (sym (ap (λ q. bound q n) e) ∙ b));
  makes = λ r k a j l p at. absurd (below_none j l);
  forced = λ r k m n v b. absurd (none_bound n v (sym (ap (λ q. bound q n) e) ∙ b));
}

module _ (free : List ℕ) (z : ℕ → Tree) (pairs : List (Tree × Tree)) (i : ℕ) (s q : List (ℕ × Tree)) (p : Tree × Tree) (h : IsSolvedBy free z pairs i s)
    (there : slice_get pairs i ≡ Some p) where
  at_last : (j : ℕ) (o : Tree × Tree) → j < i + 1 → slice_get pairs j ≡ Some o → (j < i) ⊎ (o ≡ p)
  at_last j o l at = elim (cases_lt j i) [
    | inl below ↦ inl below
    | inr above ↦
        let here : j ≡ i = omega (arith, l, above) in
        let same : Some o ≡ Some p = sym at ∙ ap (slice_get pairs) here ∙ there in inr (cc)
  ]

  pub solved_more : Matched free s (substitute z p.1) (substitute z p.0) q → IsSolvedBy free z pairs (i + 1) q
  solved_more m = record {
    within = λ n v b. elim (m.within n v b) [ inl old ↦ h.within n v old | inr new ↦ new.0 ];
    makes = λ r k a j l o at. elim (at_last j o l at) [
      | inl below ↦ h.makes r k (λ n v b. a n v (m.keeps n v b)) j below o at
      | inr same ↦ subst (λ w. Makes z r w) (sym same) (m.matches r k a)
    ];
    forced = λ r k all.
        m.forced r k (h.forced r k (λ j l o at. all j (omega (arith, l)) o at)) (all i (omega arith) p there);
  }

  pub not_solved : Refused free s (substitute z p.1) (substitute z p.0) → ¬ IsMatched free (map (λ p. (substitute z p.0, substitute z p.1)) pairs)
  not_solved refused m = refused m.0 m.1 (h.forced m.0 m.1 (λ j l o at. made j o at)) (made i p there)
    where
      made : (j : ℕ) (o : Tree × Tree) → slice_get pairs j ≡ Some o → Makes z m.0 o
      made j o at =
          all_in (λ (p : Tree × Tree). substitute m.0 p.1 ≡ p.0) (map (λ p. (substitute z p.0, substitute z p.1)) pairs) (substitute z o.0, substitute z o.1) m.2
          (mapped_contains (λ p. (substitute z p.0, substitute z p.1)) pairs o (contains_at pairs j o at))

pub is_solved : (free : List ℕ) (z : ℕ → Tree) (pairs : List (Tree × Tree)) (i : ℕ) (s : List (ℕ × Tree)) → IsSolvedBy free z pairs i s
    → length pairs ≤ i → IsMatched free (map (λ p. (substitute z p.0, substitute z p.1)) pairs)
is_solved free z pairs i s h l = (image s, keeps, all_of (λ (p : Tree × Tree). substitute (image s) p.1 ≡ p.0) (map (λ p. (substitute z p.0, substitute z p.1)) pairs) makes)
  where
    keeps : Keeps free (image s)
    keeps n not = elim (cases_option (bound s n)) [ inl e ↦ image_none s n e | inr k ↦ absurd (not (h.within n k.0 k.1)) ]

    makes : (p : Tree × Tree) → Contains (map (λ p. (substitute z p.0, substitute z p.1)) pairs) p → substitute (image s) p.1 ≡ p.0
    makes p c =
        let o = unmapped (λ p. (substitute z p.0, substitute z p.1)) pairs p c in
        let at = place_in pairs o.0 o.1 in
        let made = h.makes (image s) keeps (λ n v b. image_some s n v b) at.0 (omega (arith, l, slice_get_within pairs at.0 o.0 at.1)) o.0 at.1 in
        ap (λ (q : Tree × Tree). substitute (image s) q.1) o.2 ∙ made ∙ sym (ap (λ (q : Tree × Tree). q.0) o.2)

-- what an answer says
is_not : true ≡ false → ⊥
is_not e = cc

pub matched_of : (b : Bool) (free : List ℕ) (s : List (ℕ × Tree)) (p t : Tree) (q : List (ℕ × Tree)) → b ≡ true
    → MatchBool b (Matched free s p t q) (Refused free s p t) → Matched free s p t q
matched_of true free s p t q e h = h
matched_of false free s p t q e h = absurd (is_not (sym e))

pub refused_of : (b : Bool) (free : List ℕ) (s : List (ℕ × Tree)) (p t : Tree) (q : List (ℕ × Tree)) → b ≡ false
    → MatchBool b (Matched free s p t q) (Refused free s p t) → Refused free s p t
refused_of true free s p t q e h = absurd (is_not e)
refused_of false free s p t q e h = h
