-- Whether pairs have a unifier is decided, for all pairs and orders of variables.
use Rattle.std.specs.Prelude.{ℕ, List, ◌⊎◌}
use Rattle.dps_terms.specs.Tree.{Tree}
use Rattle.dps_unify.specs.Unifier.{IsMgu, IsNotUnifiable}

-- pairs have a most general unifier, or none at all
abbrev pub UnifiersAreDecided : Type 0
UnifiersAreDecided = (levels : List (ℕ × ℕ)) (pairs : List (Tree × Tree)) → ((u : List (ℕ × Tree)) × IsMgu levels pairs u) ⊎ IsNotUnifiable pairs
