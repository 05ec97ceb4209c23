-- The order of paths is the library's order of lists, and prefixes are its prefixes.
use Rattle.std.proofs.Common.{◌≡◌, ℕ, List, [], ◌∷◌, Bool, true, false, refl, arith, length, take}
use Rattle.std.specs.Ordering.{nat_cmp, is_lt}
use Rattle.std.specs.Bool.{nat_eq}
use Rattle.std.specs.Cmp.Lexicographic.{slice_cmp}
use Rattle.std.specs.List.{starts_with}
use Rattle.std.proofs.lemmas.Bool.Decides.{nat_tests}
use Rattle.dps_path.specs.Order.{before, is_prefix}

pub before-lt : (p q : List ℕ) → is_lt (slice_cmp nat_cmp p q) ≡ before p q
before-lt [] [] = refl
before-lt [] (j ∷ q) = refl
before-lt (i ∷ p) [] = refl
before-lt (i ∷ p) (j ∷ q) = grind (arith, nat_tests, before-lt p q)

pub prefix-starts : (p q : List ℕ) → starts_with nat_eq q p ≡ is_prefix p q
prefix-starts [] q = refl
prefix-starts (i ∷ p) [] = refl
prefix-starts (i ∷ p) (j ∷ q) = grind (arith, nat_tests, prefix-starts p q)
