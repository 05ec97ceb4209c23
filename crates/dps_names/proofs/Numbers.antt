-- The value of a number, up to a greatest one.
use Rattle.std.proofs.Common.{◌≡◌, ◌≤◌, ◌<◌, ℕ, ◌+◌, ◌-◌, ◌*◌, ◌^◌, min, List, [], ◌∷◌, refl, sym, ap, ◌∙◌, length, get_or, drop, arith}
use Rattle.std.proofs.Math.Seq.{drop-length}
use Rattle.dps_scopes.proofs.Rows.{drop_next}
use Rattle.dps_names.specs.Processes.{value_behind}

capped : (x y : ℕ) (bs : List ℕ) → min x (2 ^ 32 - 1) ≡ min y (2 ^ 32 - 1) → min (value_behind x bs) (2 ^ 32 - 1) ≡ min (value_behind y bs) (2 ^ 32 - 1)
capped x y [] e = e
capped x y (b ∷ bs) e = capped (x * 10 + (b - 48)) (y * 10 + (b - 48)) bs (omega (arith, e))

-- what the loop keeps: the value of what was read, and of what is left behind it
pub record IsReading (all rest : List ℕ) (value : ℕ) : Type 0 where
  pub so_far : min (value_behind value rest) (2 ^ 32 - 1) ≡ min (value_behind 0 all) (2 ^ 32 - 1)
  pub small : value ≤ 2 ^ 32 - 1

pub reading_first : (all : List ℕ) → IsReading all all 0
reading_first all = record { so_far = refl; small = omega arith }

pub reading_more :
    (all : List ℕ) (i value next m d : ℕ) → IsReading all (drop i all) value → i < length all → m ≡ min (value * 10) (2 ^ 32 - 1)
    → d ≡ get_or all i 0 - 48 → next ≡ min (m + d) (2 ^ 32 - 1) → IsReading all (drop (i + 1) all) next
reading_more all i value next m d r h f g n =
    let left : drop i all ≡ get_or all i 0 ∷ drop (i + 1) all = drop_next all i 0 (get_or all i 0) h refl in
    record {
      so_far = capped next (value * 10 + (get_or all i 0 - 48)) (drop (i + 1) all) (omega (arith, f, g, n)) ∙ (ap (λ bs. min (value_behind value bs) (2 ^ 32 - 1)) (sym left) ∙ r.so_far);
      small = omega (arith, n);
    }

pub reading_last : (all : List ℕ) (i value : ℕ) → IsReading all (drop i all) value → length all ≡ i → value ≡ min (value_behind 0 all) (2 ^ 32 - 1)
reading_last all i value r e =
    let none : drop i all ≡ [] = ap (λ n. drop n all) (sym e) ∙ drop-length all in
    let whole : min value (2 ^ 32 - 1) ≡ min (value_behind 0 all) (2 ^ 32 - 1) = sym (ap (λ bs. min (value_behind value bs) (2 ^ 32 - 1)) none) ∙ r.so_far in
    omega (arith, whole, r.small)

pub ruleset for_numbers = (reading_first, reading_more, reading_last)
