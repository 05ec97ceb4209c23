-- Numbers of parts.
use Rattle.std.proofs.Common.{◌≡◌, ℕ, ◌<◌, ◌+◌, List, [], ◌∷◌, length, sym, ◌∙◌, ap, subst, inl, inr, arith, length-append}
use Rattle.std.specs.Prelude.{◌↔◌, Contains}
use Rattle.std.proofs.lemmas.List.{get_or_push}
use Rattle.dps_bags.specs.Apart.{StandOnce}
use Rattle.dps_bags.proofs.Holding.{contains_one, has_place}
use Rattle.dps_bags.proofs.Keeping.{apart_more, noted_at}
use Rattle.dps_bags.specs.declared.places.Places.{Places}
use Rattle.dps_bags.specs.Places.{numbers_at, AllNoted}
use Rattle.dps_semantics.specs.Digest.{process_digest}
use Rattle.dps_process.specs.Process.{Process, nil}
use Rattle.dps_semantics.specs.Parts.{part_of, parts_of, AreNumbers, IsPartAt, IsNowhere, IsGrown, IsNumbered, StandForJust}
use Rattle.dps_semantics.proofs.Tables.{grown_none, just_one, just_as}

-- the table has grown, and has the part at the number
pub record HasPart (old new : List Process) (p : Process) (n : ℕ) : Type 0 where
  pub grown : IsGrown old new
  pub within : n < length new
  pub there : part_of new n ≡ p

pub numbered : (old new : List Process) (p : Process) (n : ℕ) → IsNumbered old new p n → HasPart old new p n
numbered old new p n = elim [
  | inl h ↦ record {
    grown = subst (IsGrown old) (sym h.0) (grown_none old);
    within = subst (λ (t : List Process). n < length t) (sym h.0) h.1.0;
    there = ap (λ t. part_of t n) h.0 ∙ h.1.1;
  }
  | inr h ↦ record {
    grown = record {
      more = p ∷ [];
      grown = h.0;
      once = λ o. subst (StandOnce nil) (sym h.0) (apart_more (λ (q r : Process). q ≡ r) nil old p o (λ q c e. h.2 (subst (λ (r : Process). Contains old r) e c)));
    };
    within = (let e : length new ≡ length old + 1 = ap length h.0 ∙ length-append old (p ∷ []) in omega (arith, e, h.1));
    there = ap (λ t. part_of t n) h.0 ∙ get_or_push old p nil n (sym h.1);
  }
]

pub number_stands : (old new : List Process) (p : Process) (n : ℕ) (bag : List ℕ) (bags : List (List ℕ))
    → IsNumbered old new p n → bag ≡ n ∷ [] → ((b : List ℕ) → Contains bags b ↔ (b ≡ bag)) → StandForJust (λ ps. ps ≡ p ∷ []) old new bags
number_stands old new p n bag bags h e j =
    let has = numbered old new p n h in
    let numbers : AreNumbers new (n ∷ []) = λ m c. subst (λ k. k < length new) (sym (contains_one n m c)) has.within in
    let one : parts_of new (n ∷ []) ≡ p ∷ [] = ap (λ q. q ∷ []) has.there in
    just_as (λ ps. ps ≡ parts_of new (n ∷ [])) (λ ps. ps ≡ p ∷ []) old new bags (λ ps f. f ∙ one) (λ ps f. f ∙ sym one)
    (just_one old new (n ∷ []) bags has.grown numbers (subst (λ (b : List ℕ). (c : List ℕ) → Contains bags c ↔ (c ≡ b)) e j))

-- a part that has none of the numbers of its digest is new
pub new_part : (table : List Process) (places : Places) (p : Process) (ns : List ℕ) → AllNoted (process_digest 0) nil table places → ns ≡ numbers_at places (process_digest 0 p)
    → IsNowhere table ns p → ¬ Contains table p
new_part table places p ns a e n c =
    let q = noted_at (process_digest 0) nil table places p a c in
    let k = has_place ns 0 q.0 (subst (λ (ms : List ℕ). Contains ms q.0) (sym e) q.1) in
    n k.0 k.1 (subst (λ m. IsPartAt table m p) (sym k.2) (q.2, q.3))
