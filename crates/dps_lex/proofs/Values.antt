-- Values of digits.
use Rattle.std.proofs.Common.{◌≡◌, ℕ, ◌+◌, ◌*◌, ◌-◌, ◌<◌, ◌≤◌, zero, suc, true, List, [], ◌∷◌, length, get_or, take, arith}
use Rattle.std.proofs.lemmas.Bool.Decides.{nat_tests}
use Rattle.std.proofs.lemmas.Int.Digits.{digits_value_more}
use Rattle.std.specs.List.{AllPass}
use Rattle.std.specs.Str.Parse.{digits_value, digits_value_after}
use Rattle.std.specs.Char.{digit_value}
use Rattle.dps_lex.specs.Alphabet.{is_digit}

-- a digit's value
pub digit_value_of : (b : ℕ) → is_digit b ≡ true → digit_value b ≡ b - 48
digit_value_of b h = grind (arith, nat_tests)

-- more digits are no smaller number
pub after_grows : (n : ℕ) (bs : List ℕ) → n ≤ digits_value_after 10 n bs
after_grows n [] = omega arith
after_grows n (b ∷ bs) = omega (arith, after_grows (n * 10 + digit_value b) bs)

after_take : (n i : ℕ) (bs : List ℕ) → digits_value_after 10 n (take i bs) ≤ digits_value_after 10 n bs
after_take n zero bs = after_grows n bs
after_take n (suc i) [] = omega arith
after_take n (suc i) (b ∷ bs) = after_take (n * 10 + digit_value b) i bs

pub front_is_smaller : (i : ℕ) (bs : List ℕ) → digits_value 10 (take i bs) ≤ digits_value 10 bs
front_is_smaller i bs = after_take 0 i bs

-- one more digit
pub next_value :
    (bs : List ℕ) (i value digit : ℕ) → AllPass is_digit bs → i < length bs → value ≡ digits_value 10 (take i bs) → digit ≡ get_or bs i 0 - 48
    → value * 10 + digit ≡ digits_value 10 (take (i + 1) bs)
next_value bs i value digit all h v d = omega (arith, digits_value_more 10 bs i h, digit_value_of (get_or bs i 0) (all i 0 h))

pub above_by_front : (bs : List ℕ) (i value : ℕ) → value ≡ digits_value 10 (take i bs) → 1000000 < value → 1000000 < digits_value 10 bs
above_by_front bs i value e h = omega (arith, front_is_smaller i bs)

pub ruleset for_is_large = (next_value, above_by_front)
