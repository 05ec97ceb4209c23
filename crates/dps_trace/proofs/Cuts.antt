-- Bytes up to the first one of a value.
use Rattle.std.proofs.Common.{◌≡◌, ◌≢◌, ℕ, false, List, [], ◌∷◌, ◌++◌, refl, ap, sym, ◌∙◌, get_or, drop, arith}
use Rattle.std.proofs.lemmas.Bool.Decides.{nat_tests}
use Rattle.dps_trace.specs.Cut.{IsWithout}
use Rattle.dps_trace.specs.Scanning.{is_sign}
use Rattle.dps_trace.proofs.Scanned.{IsUnsigned}

-- fronts without the value before its first place are one
pub one_cut : (x : ℕ) (f g r s : List ℕ) → IsWithout x f → IsWithout x g → f ++ (x ∷ r) ≡ g ++ (x ∷ s) → (f ≡ g) × (r ≡ s)
one_cut x [] [] r s h k e = (refl, ap (drop 1) e)
one_cut x [] (b ∷ g) r s h k e = absurd (k.0 (sym (ap (λ xs. get_or xs 0 0) e)))
one_cut x (b ∷ f) [] r s h k e = absurd (h.0 (ap (λ xs. get_or xs 0 0) e))
one_cut x (b ∷ f) (c ∷ g) r s h k e =
    let same = one_cut x f g r s h.1 k.1 (ap (drop 1) e) in
    (ap (λ y. y ∷ f) (ap (λ xs. get_or xs 0 0) e) ∙ ap (λ ys. c ∷ ys) same.0, same.1)

pub stands_there : (x : ℕ) (f r : List ℕ) → IsWithout x (f ++ (x ∷ r)) → ⊥
stands_there x [] r h = h.0 refl
stands_there x (b ∷ f) r h = stands_there x f r h.1

no_comma : (b : ℕ) → is_sign b ≡ false → b ≢ 44
no_comma b e s = grind (arith, nat_tests, e, s)

pub unsigned_without : (w : List ℕ) → IsUnsigned w → IsWithout 44 w
unsigned_without [] h = tt
unsigned_without (b ∷ w) h = (no_comma b h.0, unsigned_without w h.1)
