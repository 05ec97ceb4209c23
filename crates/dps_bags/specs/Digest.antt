-- Digests of lists of numbers.
use Rattle.std.specs.Prelude.{ℕ, List, [], ◌∷◌}
use Rattle.dps_terms.specs.Digest.{mixed}

-- the numbers in turn, in a digest
abbrev pub numbers_digest : ℕ → List ℕ → ℕ
numbers_digest d [] = d
numbers_digest d (n ∷ ns) = numbers_digest (mixed d n) ns
