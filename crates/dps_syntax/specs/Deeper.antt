-- Each part of a tree is smaller than the tree.
use Rattle.std.specs.Prelude.{◌+◌, ◌≤◌, max, List, [], ◌∷◌}
use Rattle.std.proofs.Common.{arith}
use denote.Param.Weighed.{most}
use Rattle.dps_syntax.specs.declared.tree.Part.{Part}
use Rattle.dps_syntax.specs.declared.tree.Part.TheVariants.{Token, Inner}
use Rattle.dps_syntax.specs.declared.tree.Tree.TheDeep.{deep-Part}
use Rattle.dps_syntax.specs.Tree.{count}
use Rattle.dps_syntax.specs.Parts.{parts_of}

pub most_le-count : (parts : List Part) → most (λ x. deep-Part x) parts ≤ count (parts_of parts) + 1
most_le-count [] = omega arith
most_le-count (Token leaf ∷ parts) = omega (arith, most_le-count parts)
most_le-count (Inner tree ∷ parts) = omega (arith, most_le-count parts)

pub deep_le-count : (parts : List Part) → max (most (λ x. deep-Part x) parts) 0 ≤ 1 + count (parts_of parts)
deep_le-count parts = omega (arith, most_le-count parts)
