-- The rules of projections, one by one.
use Rattle.std.proofs.Common.{◌≡◌, ℕ, zero, suc, ◌+◌, ◌-◌, ◌≤◌, List, [], ◌∷◌, ◌++◌, length, map, refl, sym, ◌∙◌, ap, arith, append_assoc, append-nil}
use Rattle.std.specs.List.{range_with_len, flat_map}
use Rattle.std.proofs.lemmas.List.{map-append}

range_next : (a n : ℕ) → range_with_len a (suc n) ≡ range_with_len a n ++ (a + n) ∷ []
range_next a zero = ap (λ k. k ∷ []) (omega arith)
range_next a (suc n) = ap (λ l. a ∷ l) (range_next (a + 1) n ∙ ap (λ k. range_with_len (a + 1) n ++ k ∷ []) (let e : a + 1 + n ≡ a + suc n = omega arith in e))

pub length_range : (a n : ℕ) → length (range_with_len a n) ≡ n
length_range a zero = refl
length_range a (suc n) = ap suc (length_range (a + 1) n)

-- one more number, counted from 1
pub upto_next :
    {X : Type 0} (f : ℕ → X) (before done after : List X) (n : ℕ) (x : X) → 1 ≤ n → done ≡ before ++ map f (range_with_len 1 (n - 1)) → x ≡ f n
    → after ≡ done ++ x ∷ [] → after ≡ before ++ map f (range_with_len 1 (n + 1 - 1))
upto_next f before done after n x low d e a =
    let k : n + 1 - 1 ≡ suc (n - 1) = omega arith in
    let m : n ≡ 1 + (n - 1) = omega arith in
    a ∙ (λ i. d i ++ (e ∙ ap f m) i ∷ [])
    ∙ append_assoc before (map f (range_with_len 1 (n - 1))) (f (1 + (n - 1)) ∷ [])
    ∙ ap (λ l. before ++ l) (sym (map-append f (range_with_len 1 (n - 1)) ((1 + (n - 1)) ∷ [])) ∙ ap (map f) (sym (range_next 1 (n - 1))) ∙ ap (λ j. map f (range_with_len 1 j)) (sym k))

pub upto_all : {X : Type 0} (f : ℕ → X) (before : List X) (n k : ℕ) → n ≡ k + 1 → before ++ map f (range_with_len 1 (n - 1)) ≡ before ++ map f (range_with_len 1 k)
upto_all f before n k e = let d : n - 1 ≡ k = omega arith in ap (λ j. before ++ map f (range_with_len 1 j)) d

-- the lists of one more number, counted from 2
flat_map_push : {X : Type 0} (f : ℕ → List X) (ns : List ℕ) (n : ℕ) → flat_map f (ns ++ n ∷ []) ≡ flat_map f ns ++ f n
flat_map_push f [] n = append-nil (f n)
flat_map_push f (m ∷ ns) n = ap (λ l. f m ++ l) (flat_map_push f ns n) ∙ sym (append_assoc (f m) (flat_map f ns) (f n))

pub lists_next :
    {X : Type 0} (f : ℕ → List X) (done after : List X) (n : ℕ) → 2 ≤ n → done ≡ flat_map f (range_with_len 2 (n - 2)) → after ≡ done ++ f n
    → after ≡ flat_map f (range_with_len 2 (n + 1 - 2))
lists_next f done after n low d a =
    let k : n + 1 - 2 ≡ suc (n - 2) = omega arith in
    let m : n ≡ 2 + (n - 2) = omega arith in
    a ∙ ap (λ l. l ++ f n) d ∙ ap (λ j. flat_map f (range_with_len 2 (n - 2)) ++ f j) m
    ∙ sym (flat_map_push f (range_with_len 2 (n - 2)) (2 + (n - 2)))
    ∙ ap (flat_map f) (sym (range_next 2 (n - 2)))
    ∙ ap (λ j. flat_map f (range_with_len 2 j)) (sym k)

pub lists_all : {X : Type 0} (f : ℕ → List X) (n : ℕ) → n ≡ 9 → flat_map f (range_with_len 2 (n - 2)) ≡ flat_map f (range_with_len 2 7)
lists_all f n e = ap (λ k. flat_map f (range_with_len 2 (k - 2))) e
