-- Terms over a signature, node by node.
use Rattle.std.specs.Prelude.{List, [], ◌∷◌, ⊤}
use Rattle.dps_terms.specs.Tree.{Tree, leaf, app, count}
use Rattle.dps_signature.specs.Signature.{Signature, HasArity, shapes}
use Rattle.dps_signature.specs.Kinds.{IsLeafOver, IsOver}

-- the symbol or the leaf at the root is over the signature
abbrev pub IsRootOver : Signature → Tree → Type 0
IsRootOver signature (leaf x) = IsLeafOver signature x
IsRootOver signature (app f ts) = HasArity (shapes signature) f (count ts)

-- each of the trees is
abbrev pub AreOver : Signature → List Tree → Type 0
AreOver signature [] = ⊤
AreOver signature (t ∷ ts) = IsOver signature t × AreOver signature ts
