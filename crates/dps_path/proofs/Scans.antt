-- The text of a path is scanned as its numbers.
use Rattle.std.proofs.Common.{◌≡◌, ℕ, ◌+◌, ◌*◌, ◌-◌, ◌<◌, ◌≤◌, ◌^◌, ◌/◌, ◌%◌, List, [], ◌∷◌, ◌++◌, Some, None, length, drop, refl, ap, ◌∙◌, sym, arith, append_assoc, length-append}
use Rattle.std.specs.Fmt.{decimal}
use Rattle.std.specs.List.{All}
use Rattle.std.proofs.lemmas.Bool.Decides.{nat_tests}
use Rattle.std.proofs.lemmas.List.Elements.{All-head, All-tail}
use Rattle.std.proofs.lemmas.Fmt.{decimal_by_steps, decimal_nonempty}
use Rattle.dps_path.specs.Scanning.{longer, scanned}
use Rattle.dps_path.specs.Text.{parts_text, path_text, IsPath}

-- these digits are scanned as this number
abbrev IsScanned : ℕ → List ℕ → Type 0
IsScanned n digits = (numbers rest : List ℕ) → n < 2 ^ 32 → scanned numbers (Some 0) (digits ++ rest) ≡ scanned numbers (Some n) rest

one_digit : (n : ℕ) → n < 10 → IsScanned n ((48 + n) ∷ [])
one_digit n low numbers rest small = grind (arith, nat_tests)

last_digit : (n : ℕ) (numbers rest : List ℕ) → n < 2 ^ 32 → scanned numbers (Some (n / 10)) ((48 + n % 10) ∷ rest) ≡ scanned numbers (Some n) rest
last_digit n numbers rest small = grind (arith, nat_tests)

more_digits : (n : ℕ) (digits : List ℕ) → 10 ≤ n → IsScanned (n / 10) digits → IsScanned n (digits ++ ((48 + n % 10) ∷ []))
more_digits n digits high before numbers rest small =
    rw append_assoc (before numbers ((48 + n % 10) ∷ rest) (omega arith) ∙ last_digit n numbers rest small)

pub decimal-scanned : (n : ℕ) (numbers rest : List ℕ) → n < 2 ^ 32 → scanned numbers (Some 0) (decimal n ++ rest) ≡ scanned numbers (Some n) rest
decimal-scanned n numbers rest small = decimal_by_steps IsScanned one_digit more_digits n (omega arith) numbers rest small

pub parts-scanned : (numbers : List ℕ) (n : ℕ) (path : List ℕ) → IsPath (n ∷ path) → scanned numbers (Some n) (parts_text path) ≡ Some (numbers ++ n ∷ path)
parts-scanned numbers n [] all = refl
parts-scanned numbers n (k ∷ path) all =
    decimal-scanned k (numbers ++ n ∷ []) (parts_text path) (All-head (λ k. k < 2 ^ 32) k path (All-tail (λ k. k < 2 ^ 32) n (k ∷ path) all))
    ∙ parts-scanned (numbers ++ n ∷ []) k path (All-tail (λ k. k < 2 ^ 32) n (k ∷ path) all)
    ∙ ap (λ xs. Some xs) (append_assoc numbers (n ∷ []) (k ∷ path))

pub longer-low : (n byte : ℕ) → byte < 48 → None ≡ longer n byte
longer-low n byte low = grind (arith, nat_tests)

pub longer-high : (n byte : ℕ) → 57 < byte → None ≡ longer n byte
longer-high n byte high = grind (arith, nat_tests)

pub longer-large : (n byte : ℕ) → 2 ^ 32 ≤ n * 10 + (byte - 48) → None ≡ longer n byte
longer-large n byte large = grind (arith, nat_tests)

pub longer-more : (n byte next : ℕ) → 48 ≤ byte → byte ≤ 57 → next ≡ n * 10 + (byte - 48) → next < 2 ^ 32 → Some next ≡ longer n byte
longer-more n byte next low high is small = grind (arith, nat_tests)

-- the numbers that have a path's text
pub scan-path : (n : ℕ) (path bytes : List ℕ) → IsPath (n ∷ path) → decimal n ++ parts_text path ≡ bytes → scanned [] (Some 0) bytes ≡ Some (n ∷ path)
scan-path n path bytes all e =
    ap (scanned [] (Some 0)) (sym e) ∙ decimal-scanned n [] (parts_text path) (All-head (λ k. k < 2 ^ 32) n path all) ∙ parts-scanned [] n path all

-- `/` alone is the root's text alone
pub root-alone : (p rest bytes : List ℕ) → bytes ≡ 47 ∷ rest → length rest ≡ 0 → IsPath p → path_text p ≡ bytes → [] ≡ p
root-alone [] rest bytes e z all t = refl
root-alone (n ∷ p) rest bytes e z all t =
    let small : n < 2 ^ 32 = All-head (λ k. k < 2 ^ 32) n p all in
    absurd (omega (arith, ap length (t ∙ e), z, length-append (decimal n) (parts_text p), decimal_nonempty n (omega (arith, small))))

-- behind the first `/` stand the numbers
pub behind-slash : (p rest bytes : List ℕ) → bytes ≡ 47 ∷ rest → (length rest ≡ 0 → ⊥) → IsPath p → path_text p ≡ bytes → scanned [] (Some 0) rest ≡ Some p
behind-slash [] rest bytes e more all t = absurd (more (ap length (ap (drop 1) (sym e ∙ sym t))))
behind-slash (n ∷ p) rest bytes e more all t = scan-path n p rest all (ap (drop 1) (t ∙ e))
