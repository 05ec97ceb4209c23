-- Pairs have one most general unifier.
use Rattle.std.specs.Prelude.{◌≡◌, ℕ, List}
use Rattle.dps_terms.specs.Tree.{Tree}
use Rattle.dps_terms.specs.Bindings.{image}
use Rattle.dps_unify.specs.Unifier.{IsMgu}

-- two most general unifiers in which each class is represented by its least variable are one substitution
abbrev pub MguIsOne : Type 0
MguIsOne = (levels : List (ℕ × ℕ)) (pairs : List (Tree × Tree)) (s t : List (ℕ × Tree)) → IsMgu levels pairs s → IsMgu levels pairs t → image s ≡ image t
