-- Numbers as digits.
use Rattle.std.proofs.Common.{◌≡◌, ℕ, ◌+◌, ◌*◌, ◌-◌, ◌<◌, ◌≤◌, ◌^◌, ◌/◌, ◌%◌, List, [], ◌∷◌, ◌++◌, Some, ap, ◌∙◌, sym, arith, append_assoc}
use Rattle.std.specs.Prelude.{⊤}
use Rattle.std.specs.Fmt.{decimal}
use Rattle.std.proofs.lemmas.Bool.Decides.{nat_tests}
use Rattle.std.proofs.lemmas.List.{append-nil}
use Rattle.std.proofs.lemmas.Fmt.{decimal_by_steps}
use Rattle.dps_trace.specs.Scanning.{longer, numeral, numeral_from}

-- these digits are read as this number
abbrev IsReadAs : ℕ → List ℕ → Type 0
IsReadAs n digits = (rest : List ℕ) → n < 2 ^ 64 → numeral_from (Some 0) (digits ++ rest) ≡ numeral_from (Some n) rest

pub longer-more : (n b next : ℕ) → 48 ≤ b → b ≤ 57 → next ≡ n * 10 + (b - 48) → next < 2 ^ 64 → Some next ≡ longer n b
longer-more n b next low high is small = grind (arith, nat_tests)

one_digit : (n : ℕ) → n < 10 → IsReadAs n ((48 + n) ∷ [])
one_digit n low rest small = ap (λ x. numeral_from x rest) (sym (longer-more 0 (48 + n) n (omega arith) (omega (arith, low)) (omega arith) small))

last_digit : (n : ℕ) (rest : List ℕ) → n < 2 ^ 64 → numeral_from (Some (n / 10)) ((48 + n % 10) ∷ rest) ≡ numeral_from (Some n) rest
last_digit n rest small = ap (λ x. numeral_from x rest) (sym (longer-more (n / 10) (48 + n % 10) n (omega arith) (omega arith) (omega arith) small))

more_digits : (n : ℕ) (digits : List ℕ) → 10 ≤ n → IsReadAs (n / 10) digits → IsReadAs n (digits ++ ((48 + n % 10) ∷ []))
more_digits n digits high before rest small = rw append_assoc (before ((48 + n % 10) ∷ rest) (omega arith) ∙ last_digit n rest small)

pub numeral-decimal : (n : ℕ) → n < 2 ^ 64 → numeral (decimal n) ≡ Some n
numeral-decimal n small = ap numeral (sym (append-nil (decimal n))) ∙ decimal_by_steps IsReadAs one_digit more_digits n small [] small

-- digits alone
abbrev pub AreDigits : List ℕ → Type 0
AreDigits [] = ⊤
AreDigits (b ∷ bs) = (48 ≤ b) × (b ≤ 57) × AreDigits bs

digits_behind : (bs : List ℕ) (b : ℕ) → 48 ≤ b → b ≤ 57 → AreDigits bs → AreDigits (bs ++ (b ∷ []))
digits_behind [] b low high h = (low, high, tt)
digits_behind (d ∷ bs) b low high h = (h.0, h.1, digits_behind bs b low high h.2)

pub decimal_digits : (n : ℕ) → n < 2 ^ 64 → AreDigits (decimal n)
decimal_digits n small =
    decimal_by_steps (λ n ds. AreDigits ds) (λ n low. (omega arith, omega arith, tt))
    (λ n ds high h. digits_behind ds (48 + n % 10) (omega arith) (omega arith) h) n small
