-- Rows that are dropped one after another.
use Rattle.std.proofs.Common.{◌≡◌, ℕ, zero, suc, ◌+◌, List, [], ◌∷◌, ◌++◌, map, take, drop, Some, Bool, true, false, cond, refl, ap, ◌∙◌, sym, arith}
use Rattle.std.specs.Prelude.{slice_get, slice_set}
use Rattle.std.proofs.lemmas.Option.{same_Some, none-some}
use Rattle.dps_path.specs.Order.{before}
use Rattle.dps_core.specs.declared.event.Mark.{Mark}
use Rattle.dps_core.specs.declared.rows.Row.{Row}
use Rattle.dps_core.specs.Book.{row, drop_mark, dropped_after}
use Rattle.dps_core.proofs.Lists.{set-same}

-- the first rows are changed, and the others are not
abbrev pub half : (Row → Row) → ℕ → List Row → List Row
half f i rows = map f (take i rows) ++ drop i rows

pub half-here : (f : Row → Row) (i : ℕ) (rows : List Row) (r : Row) → slice_get rows i ≡ Some r → slice_get (half f i rows) i ≡ Some r
half-here f i [] r e = absurd (none-some r e)
half-here f zero (q ∷ rows) r e = e
half-here f (suc i) (q ∷ rows) r e = half-here f i rows r e

half_set : (f : Row → Row) (i : ℕ) (rows : List Row) (r : Row) → slice_get rows i ≡ Some r → slice_set (half f i rows) i (f r) ≡ half f (suc i) rows
half_set f i [] r e = absurd (none-some r e)
half_set f zero (q ∷ rows) r e = ap (λ (a : Row). f a ∷ rows) (sym (same_Some q r e))
half_set f (suc i) (q ∷ rows) r e = ap (λ (rest : List Row). f q ∷ rest) (half_set f i rows r e)

pub half-path : (p : List ℕ) (i k : ℕ) (rows : List Row) (r : Row) → slice_get rows k ≡ Some r → (q : Row) × (slice_get (half (dropped_after p) i rows) k ≡ Some q) × (q.path ≡ r.path)
half-path p i k [] r e = absurd (none-some r e)
half-path p zero k (x ∷ rows) r e = (r, e, refl)
half-path p (suc i) zero (x ∷ rows) r e = (dropped_after p x, refl, ap (λ (a : Row). a.path) (same_Some x r e))
half-path p (suc i) (suc k) (x ∷ rows) r e = half-path p i k rows r e

next_is : (f : Row → Row) (i : ℕ) (rows : List Row) → half f (suc i) rows ≡ half f (i + 1) rows
next_is f i rows = ap (λ k. half f k rows) (let h : suc i ≡ i + 1 = omega arith in h)

dropped_is : (p : List ℕ) (r : Row) (b : Bool) → before p r.path ≡ b → dropped_after p r ≡ row r.path (cond b (drop_mark r.mark) r.mark)
dropped_is p r b e = ap (λ (x : Bool). row r.path (cond x (drop_mark r.mark) r.mark)) e

pub drop-next : (p : List ℕ) (i : ℕ) (rows now : List Row) (r q : Row) (m : Mark) → now ≡ half (dropped_after p) i rows → slice_get rows i ≡ Some r → before p r.path ≡ true → q ≡ r
    → m ≡ drop_mark r.mark → slice_set now i (row q.path m) ≡ half (dropped_after p) (i + 1) rows
drop-next p i rows now r q m is e b same mark =
    ap (λ (xs : List Row). slice_set xs i (row q.path m)) is
    ∙ ap (λ (a : Row). slice_set (half (dropped_after p) i rows) i (row a.path m)) same
    ∙ ap (λ (k : Mark). slice_set (half (dropped_after p) i rows) i (row r.path k)) mark
    ∙ ap (λ (a : Row). slice_set (half (dropped_after p) i rows) i a) (sym (dropped_is p r true b))
    ∙ half_set (dropped_after p) i rows r e
    ∙ next_is (dropped_after p) i rows

pub keep-next : (p : List ℕ) (i : ℕ) (rows now : List Row) (r : Row) → now ≡ half (dropped_after p) i rows → slice_get rows i ≡ Some r → before p r.path ≡ false
    → now ≡ half (dropped_after p) (i + 1) rows
keep-next p i rows now r is e b =
    is
    ∙ sym (set-same (half (dropped_after p) i rows) i r (half-here (dropped_after p) i rows r e))
    ∙ ap (λ (a : Row). slice_set (half (dropped_after p) i rows) i a) (sym (dropped_is p r false b))
    ∙ half_set (dropped_after p) i rows r e
    ∙ next_is (dropped_after p) i rows
