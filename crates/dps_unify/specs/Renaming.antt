-- Variables with raised numbers.
use Rattle.std.specs.Prelude.{ℕ, ◌+◌, ◌<◌, ◌^◌}
use Rattle.dps_terms.specs.Tree.{Tree, leaf, var, StandsIn}
use Rattle.dps_terms.specs.Replace.{substitute}

-- the tree with `by` added to the number of each variable
abbrev pub raised : ℕ → Tree → Tree
raised by t = substitute (λ n. leaf (var (n + by))) t

-- each sum is a number of a variable
abbrev pub HasRoom : Tree → ℕ → Type 0
HasRoom t by = (n : ℕ) → StandsIn (var n) t → n + by < 2 ^ 64
