-- Lists whose items are noted at their digests, and stand once.
use Rattle.std.proofs.Common.{◌≡◌, ℕ, ◌<◌, List, [], ◌∷◌, ◌++◌, length, get_or, sym, ◌∙◌, ap, subst, inl, inr, arith, length-append, Bool, true, false}
use Rattle.std.specs.Prelude.{◌⊎◌, ◌==◌, if◌then◌else◌, Contains}
use Rattle.std.specs.List.Sorted.{IsNonDecreasing}
use Rattle.std.proofs.lemmas.List.{get_or_append_left, get_or_push}
use Rattle.std.proofs.lemmas.List.Elements.{Contains-append_left, Contains-push, Contains-get_or}
use Rattle.dps_bags.specs.declared.places.Places.{Places}
use Rattle.dps_bags.specs.Apart.{AreApart}
use Rattle.dps_bags.specs.Digest.{numbers_digest}
use Rattle.dps_bags.specs.Places.{numbers_at, IsNoted, HaveSame, AllNoted}
use Rattle.dps_bags.specs.Bags.{AreKept, StandsAt, AreBagsNoted}
use Rattle.dps_bags.proofs.Holding.{contains_none, contains_pushed, has_place}

pub before_or_last : {A : Type 0} (xs : List A) (x : A) (i : ℕ) → i < length (xs ++ x ∷ []) → (i < length xs) ⊎ (i ≡ length xs)
before_or_last xs x i h = let e = length-append xs (x ∷ []) in grind (arith, h, e)

pub apart_none : {A : Type 0} (R : A → A → Type 0) (d : A) → AreApart R d []
apart_none R d i j l h = absurd (omega (arith, h))

pub apart_more : {A : Type 0} (R : A → A → Type 0) (d : A) (xs : List A) (x : A) → AreApart R d xs → ((y : A) → Contains xs y → ¬ R y x) → AreApart R d (xs ++ x ∷ [])
apart_more {A} R d xs x a n i j l h = at_place (before_or_last xs x j h)
  where
    first : i < length xs → get_or (xs ++ x ∷ []) i d ≡ get_or xs i d
    first k = get_or_append_left xs (x ∷ []) d i k

    at_place : (j < length xs) ⊎ (j ≡ length xs) → ¬ R (get_or (xs ++ x ∷ []) i d) (get_or (xs ++ x ∷ []) j d)
    at_place (inl k) = λ r. (
        let one = subst (λ (y : A). R y (get_or (xs ++ x ∷ []) j d)) (first (omega (arith, l, k))) r in
        a i j l k (subst (λ (y : A). R (get_or xs i d) y) (get_or_append_left xs (x ∷ []) d j k) one)
        )
    at_place (inr e) = λ r. (
        let there : i < length xs = omega (arith, l, e) in
        let one = subst (λ (y : A). R y (get_or (xs ++ x ∷ []) j d)) (first there) r in
        n (get_or xs i d) (Contains-get_or xs i d there) (subst (λ (y : A). R (get_or xs i d) y) (get_or_push xs x d j (sym e)) one)
        )

if_stays : (b : Bool) (xs : List ℕ) (n m : ℕ) → Contains xs m → Contains (if b then xs ++ n ∷ [] else xs) m
if_stays true xs n m h = Contains-append_left xs (n ∷ []) m h
if_stays false xs n m h = h

-- what is noted stays
pub note_stays : (old new : Places) (d n e m : ℕ) → IsNoted old new d n → Contains (numbers_at old e) m → Contains (numbers_at new e) m
note_stays old new d n e m h c = subst (λ (xs : List ℕ). Contains xs m) (sym (h e)) (if_stays (e == d) (numbers_at old e) n m c)

itself : (d : ℕ) → (d == d) ≡ true
itself d = grind arith

-- what is new is noted
pub note_there : (old new : Places) (d n : ℕ) → IsNoted old new d n → Contains (numbers_at new d) n
note_there old new d n h =
    let same = h d ∙ ap (λ b. if b then numbers_at old d ++ n ∷ [] else numbers_at old d) (itself d) in
    subst (λ (xs : List ℕ). Contains xs n) (sym same) (Contains-push (numbers_at old d) n)

module _ {A : Type 0} (digest : A → ℕ) (d : A) where
  pub all_noted_none : (places : Places) → AllNoted digest d [] places
  all_noted_none places i h = absurd (omega (arith, h))

  pub all_noted_stay : (xs : List A) (old new : Places) (e n : ℕ) → IsNoted old new e n → AllNoted digest d xs old → AllNoted digest d xs new
  all_noted_stay xs old new e n h a i l = note_stays old new e n (digest (get_or xs i d)) i h (a i l)

  pub all_noted_same : (xs : List A) (old new : Places) → HaveSame old new → AllNoted digest d xs old → AllNoted digest d xs new
  all_noted_same xs old new h a i l = subst (λ (ns : List ℕ). Contains ns i) (sym (h (digest (get_or xs i d)))) (a i l)

  pub all_noted_more : (xs : List A) (x : A) (old new : Places) → IsNoted old new (digest x) (length xs) → AllNoted digest d xs old → AllNoted digest d (xs ++ x ∷ []) new
  all_noted_more xs x old new h a i l = at_place (before_or_last xs x i l)
    where
      at_place : (i < length xs) ⊎ (i ≡ length xs) → Contains (numbers_at new (digest (get_or (xs ++ x ∷ []) i d))) i
      at_place (inl k) =
          subst (λ (y : A). Contains (numbers_at new (digest y)) i) (sym (get_or_append_left xs (x ∷ []) d i k)) (all_noted_stay xs old new (digest x) (length xs) h a i k)
      at_place (inr e) =
          let last = subst (λ k. Contains (numbers_at new (digest x)) k) (sym e) (note_there old new (digest x) (length xs) h) in
          subst (λ (y : A). Contains (numbers_at new (digest y)) i) (sym (get_or_push xs x d i (sym e))) last

  -- an item is noted at its digest, by a place where it stands
  abbrev pub IsNotedAt : List A → Places → A → Type 0
  IsNotedAt xs places x = (i : ℕ) × Contains (numbers_at places (digest x)) i × (i < length xs) × (get_or xs i d ≡ x)

  pub noted_at : (xs : List A) (places : Places) (x : A) → AllNoted digest d xs places → Contains xs x → IsNotedAt xs places x
  noted_at xs places x a c =
      let p = has_place xs d x c in
      (p.0, subst (λ (y : A). Contains (numbers_at places (digest y)) p.0) p.2 (a p.0 p.1), p.1, p.2)

pub kept_none : AreKept []
kept_none = record { once = apart_none (λ (x y : List ℕ). x ≡ y) []; ascending = λ b h. absurd (contains_none b h) }

pub kept_more : (bags : List (List ℕ)) (bag : List ℕ) → AreKept bags → IsNonDecreasing bag → ¬ Contains bags bag → AreKept (bags ++ bag ∷ [])
kept_more bags bag h s n = record {
  once = apart_more (λ (x y : List ℕ). x ≡ y) [] bags bag h.once (λ y c e. n (subst (λ (b : List ℕ). Contains bags b) e c));
  ascending = λ b c. elim ((contains_pushed bags bag b).0 c) [ inl k ↦ h.ascending b k | inr e ↦ subst IsNonDecreasing (sym e) s ];
}

-- a bag that stands nowhere among those of its digest is new
pub new_bag : (bags : List (List ℕ)) (places : Places) (bag : List ℕ) → AreBagsNoted bags places → ¬ StandsAt bags (numbers_at places (numbers_digest 0 bag)) bag → ¬ Contains bags bag
new_bag bags places bag a n c = n (let p = noted_at (numbers_digest 0) [] bags places bag a c in (p.0, p.1, (p.2, p.3)))
