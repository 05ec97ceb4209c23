-- The parts of a tree as contracts see them.
use Rattle.std.specs.Prelude.{List, [], ◌∷◌}
use Rattle.dps_syntax.specs.declared.tree.Part.{Part}
use Rattle.dps_syntax.specs.declared.tree.Part.TheVariants.{Token, Inner}
use Rattle.dps_syntax.specs.Tree.{Parts, none, token, inner}

-- The parts of a list, in order.
abbrev pub parts_of : List Part → Parts
parts_of [] = none
parts_of (Token leaf ∷ parts) = token leaf (parts_of parts)
parts_of (Inner tree ∷ parts) = inner tree.production tree.parts (parts_of parts)
