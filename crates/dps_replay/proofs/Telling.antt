-- Tests that tell a frame from others, and partners of ends.
use Rattle.std.proofs.Common.{◌≡◌, ℕ, zero, suc, ◌+◌, ◌<◌, List, [], ◌∷◌, ◌++◌, length, get_or, refl, sym, ◌∙◌, ap, subst, inl, inr, arith, Some, length-append}
use Rattle.std.specs.Prelude.{◌⊎◌, Contains, slice_get}
use Rattle.std.proofs.lemmas.List.Elements.{Contains-append_left, Contains-push, Contains-push_cases}
use Rattle.std.proofs.Math.ListN.{get_or-append}
use Rattle.std.proofs.lemmas.List.{get_or_default}
use Rattle.std.proofs.Math.Seq.{get_or-append_seam}
use Rattle.dps_terms.specs.Tree.{Tree}
use Rattle.dps_theory.specs.Theory.{Theory}
use Rattle.dps_process.specs.Steps.{Config}
use Rattle.dps_static.specs.declared.Test.{Test}
use Rattle.dps_static.specs.declared.Comparison.{Comparison}
use Rattle.dps_static.specs.declared.Comparison.TheVariants.{Differ}
use Rattle.dps_static.specs.Answer.{IsAnswerUnder}
use Rattle.dps_replay.specs.Answers.{AreDistinct}
use Rattle.dps_replay.specs.Collecting.{IsAdded}
use Rattle.dps_replay.specs.Matching.{frame_at, AreAlike, AreToldBy, IsFrameAt, IsFirst, AreFirsts, TellApart, IsPartnerAt, HavePartners}

-- a frame looks like itself
pub alike_itself : (theory : Theory) (frame : List Tree) → AreAlike theory frame frame
alike_itself theory frame signature h k = record {
  same_length = refl;
  same_successes = λ r o. (λ x. x, λ x. x);
  same_equalities = λ r s o p. (λ x. x, λ x. x);
}

-- one with the same frame is a partner
pub same_partner : (theory : Theory) (frame : List Tree) (others : List Config) (limit place : ℕ) → IsFrameAt others limit frame place → IsPartnerAt theory frame others place
same_partner theory frame others limit place h = record {
  within = h.within;
  alike = subst (λ (f : List Tree). AreAlike theory frame f) (sym h.same) (alike_itself theory frame);
}

pub distinct_none : (A : Type 0) → AreDistinct {A = A} []
distinct_none A i j x h k = absurd (cc)

-- what is read of a list with one more item
read_pushed : {A : Type 0} (xs : List A) (y : A) (i : ℕ) (x : A) → slice_get (xs ++ y ∷ []) i ≡ Some x → (slice_get xs i ≡ Some x) ⊎ ((i ≡ length xs) × (x ≡ y))
read_pushed [] y zero x h = inr (refl, (cc))
read_pushed [] y (suc i) x h = absurd (cc)
read_pushed (z ∷ xs) y zero x h = inl h
read_pushed (z ∷ xs) y (suc i) x h = elim (read_pushed xs y i x h) [ inl k ↦ inl k | inr k ↦ inr (ap (λ (n : ℕ). suc n) k.0, k.1) ]

read_contains : {A : Type 0} (xs : List A) (i : ℕ) (x : A) → slice_get xs i ≡ Some x → Contains xs x
read_contains [] i x h = absurd (cc)
read_contains (z ∷ xs) zero x h = (0, omega arith, (cc))
read_contains (z ∷ xs) (suc i) x h = let k = read_contains xs i x h in (suc k.0, omega (arith, k.1), k.2)

pub distinct_more : {A : Type 0} (xs : List A) (y : A) → AreDistinct xs → ¬ Contains xs y → AreDistinct (xs ++ y ∷ [])
distinct_more xs y d n i j x h k =
    elim (read_pushed xs y i x h) [
      | inl a ↦ elim (read_pushed xs y j x k) [
        | inl b ↦ d i j x a b
        | inr b ↦ absurd (n (subst (λ z. Contains xs z) b.1 (read_contains xs i x a)))
      ]
      | inr a ↦ elim (read_pushed xs y j x k) [
        | inl b ↦ absurd (n (subst (λ z. Contains xs z) a.1 (read_contains xs j x b)))
        | inr b ↦ a.0 ∙ sym b.0
      ]
    ]

-- a test that was added stands in the list, and so do those from before
pub added_there : (old : List Test) (test : Test) (new : List Test) → IsAdded old test new → Contains new test
added_there old test new (inl h) = subst (λ (ts : List Test). Contains ts test) (sym h.1) h.0
added_there old test new (inr h) = subst (λ (ts : List Test). Contains ts test) (sym h.1) (Contains-push old test)

pub added_stay : (old : List Test) (test : Test) (new : List Test) → IsAdded old test new → (other : Test) → Contains old other → Contains new other
added_stay old test new (inl h) other k = subst (λ (ts : List Test). Contains ts other) (sym h.1) k
added_stay old test new (inr h) other k = subst (λ (ts : List Test). Contains ts other) (sym h.1) (Contains-append_left old (test ∷ []) other k)

-- and no other
pub added_cases : (old : List Test) (test : Test) (new : List Test) → IsAdded old test new → (other : Test) → Contains new other → Contains old other ⊎ (test ≡ other)
added_cases old test new (inl h) other k = inl (subst (λ (ts : List Test). Contains ts other) h.1 k)
added_cases old test new (inr h) other k = Contains-push_cases old test other (subst (λ (ts : List Test). Contains ts other) h.1 k)

pub added_distinct : (old : List Test) (test : Test) (new : List Test) → IsAdded old test new → AreDistinct old → AreDistinct new
added_distinct old test new (inl h) d = subst (λ (ts : List Test). AreDistinct ts) (sym h.1) d
added_distinct old test new (inr h) d = subst (λ (ts : List Test). AreDistinct ts) (sym h.1) (distinct_more old test d h.0)

-- what is below the next number is below this one, or is it
pub below_next : (i k : ℕ) → i < k + 1 → (i < k) ⊎ (i ≡ k)
below_next zero zero h = inr refl
below_next zero (suc k) h = inl (omega arith)
below_next (suc i) zero h = absurd (omega (arith, h))
below_next (suc i) (suc k) h = elim (below_next i k (omega (arith, h))) [ inl l ↦ inl (omega (arith, l)) | inr e ↦ inr (ap (λ (n : ℕ). suc n) e) ]

module _ (theory : Theory) (frame : List Tree) (others : List Config) where
  pub none_told : TellApart theory frame others 0 []
  none_told = record {
    told = λ i h. absurd (omega (arith, h));
    useful = λ test h. absurd (omega (arith, h.1));
    distinct = distinct_none Test;
  }

  abbrev IsToldAt : List Test → ℕ → Type 0
  IsToldAt tests i = (test : Test) × Contains tests test × AreToldBy theory frame (frame_at others i) test

  -- one more, by a test
  pub more_told : (count : ℕ) (tests : List Test) (test : Test) (new : List Test) → TellApart theory frame others count tests
      → AreToldBy theory frame (frame_at others count) test → IsAdded tests test new → TellApart theory frame others (count + 1) new
  more_told count tests test new h k a = record {
    told = λ i l. elim (below_next i count l) [
      | inl b ↦ let t = h.told i b in (t.0, added_stay tests test new a t.0 t.1, t.2)
      | inr e ↦ subst (IsToldAt new) (sym e) (test, added_there tests test new a, k)
    ];
    useful = λ other c. elim (added_cases tests test new a other c) [
      | inl b ↦ let u = h.useful other b in (u.0, omega (arith, u.1), u.2)
      | inr e ↦ (count, omega arith, subst (λ (t : Test). AreToldBy theory frame (frame_at others count) t) e k)
    ];
    distinct = added_distinct tests test new a h.distinct;
  }

  -- one more, by an answer of a comparison
  pub answer_told : (count : ℕ) (tests : List Test) (test : Test) (new : List Test) (answer : Comparison) → TellApart theory frame others count tests
      → IsAnswerUnder theory frame (frame_at others count) answer → answer ≡ Differ test → IsAdded tests test new → TellApart theory frame others (count + 1) new
  answer_told count tests test new answer h k e a = more_told count tests test new h (subst (λ (c : Comparison). IsAnswerUnder theory frame (frame_at others count) c) e k) a

  -- one more, whose frame stood before
  pub same_told : (count first : ℕ) (tests : List Test) → TellApart theory frame others count tests → first < count → frame_at others first ≡ frame_at others count
      → TellApart theory frame others (count + 1) tests
  same_told count first tests h l e = record {
    told = λ i b. elim (below_next i count b) [
      | inl k ↦ h.told i k
      | inr k ↦ let t = h.told first l in subst (IsToldAt tests) (sym k) (t.0, t.1, subst (λ (f : List Tree). AreToldBy theory frame f t.0) e t.2)
    ];
    useful = λ other c. let u = h.useful other c in (u.0, omega (arith, u.1), u.2);
    distinct = h.distinct;
  }

module _ (theory : Theory) (ends others : List Config) where
  pub no_partners : HavePartners theory ends others 0 []
  no_partners = record { counted = refl; partner = λ i h. absurd (omega (arith, h)) }

  pub more_partners : (count : ℕ) (partners : List ℕ) (place : ℕ) → HavePartners theory ends others count partners → IsPartnerAt theory (frame_at ends count) others place
      → HavePartners theory ends others (count + 1) (partners ++ place ∷ [])
  more_partners count partners place h k = record {
    counted = simp length-append (omega (arith, h.counted));
    partner = λ i l. elim (below_next i count l) [
      | inl b ↦ subst (λ (p : ℕ). IsPartnerAt theory (frame_at ends i) others p) (sym (get_or-append partners (place ∷ []) 0 i (omega (arith, b, h.counted)))) (h.partner i b)
      | inr e ↦
          subst (λ (n : ℕ). IsPartnerAt theory (frame_at ends n) others (get_or (partners ++ place ∷ []) n 0)) (h.counted ∙ sym e)
          (subst (λ (p : ℕ). IsPartnerAt theory (frame_at ends (length partners)) others p) (sym (get_or-append_seam partners place [] 0))
          (subst (λ (n : ℕ). IsPartnerAt theory (frame_at ends n) others place) (sym h.counted) k))
    ];
  }

  -- an end whose frame stood before has the partner that stood there
  pub same_as_before : (count first : ℕ) (partners : List ℕ) → HavePartners theory ends others count partners → first < count → frame_at ends first ≡ frame_at ends count
      → IsPartnerAt theory (frame_at ends count) others (get_or partners first 0)
  same_as_before count first partners h l e = subst (λ (f : List Tree). IsPartnerAt theory f others (get_or partners first 0)) e (h.partner first l)

-- the place of the first with the same frame, one more
module _ (configs : List Config) where
  pub no_firsts : AreFirsts configs 0 []
  no_firsts = record { counted = refl; before = λ i h. absurd (omega (arith, h)); same = λ i h. absurd (omega (arith, h)) }

  reads_first :
      (count : ℕ) (firsts : List ℕ) (first : ℕ) → AreFirsts configs count firsts → IsFirst configs count first → (i : ℕ)
      → i < count + 1 → IsFirst configs i (get_or (firsts ++ first ∷ []) i 0)
  reads_first count firsts first h k i l = elim (below_next i count l) [
    | inl b ↦ subst (IsFirst configs i) (sym (get_or-append firsts (first ∷ []) 0 i (omega (arith, b, h.counted)))) (h.before i b, h.same i b)
    | inr e ↦
        subst (λ (n : ℕ). IsFirst configs n (get_or (firsts ++ first ∷ []) n 0)) (h.counted ∙ sym e)
        (subst (IsFirst configs (length firsts)) (sym (get_or-append_seam firsts first [] 0)) (subst (λ (n : ℕ). IsFirst configs n first) (sym h.counted) k))
  ]

  pub more_firsts : (count : ℕ) (firsts : List ℕ) (first : ℕ) → AreFirsts configs count firsts → IsFirst configs count first → AreFirsts configs (count + 1) (firsts ++ first ∷ [])
  more_firsts count firsts first h k = record {
    counted = simp length-append (omega (arith, h.counted));
    before = λ i b. (reads_first count firsts first h k i b).0;
    same = λ i b. (reads_first count firsts first h k i b).1;
  }

-- the frame that was read of the configuration at the place
pub read_frame : (configs : List Config) (i : ℕ) (c : Config) (frame : List Tree) → c ≡ get_or configs i c → i < length configs → frame ≡ c.frame → frame ≡ frame_at configs i
read_frame configs i c frame e l f = f ∙ ap (λ (k : Config). k.frame) (e ∙ get_or_default configs i c _ l)

pub ruleset for_is_alike = (same_told, answer_told, read_frame)
