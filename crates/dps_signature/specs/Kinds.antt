-- The kinds of terms over a signature.
use Rattle.std.specs.Prelude.{ℕ, ◌≤◌, List, ⊤}
use Rattle.dps_signature.specs.declared.SymKind.TheVariants.{Constructor}
use Rattle.dps_terms.specs.declared.PublicName.{PublicName}
use Rattle.dps_terms.specs.declared.PublicName.TheVariants.{Declared, At}
use Rattle.dps_terms.specs.Tree.{Leaf, public, private, var, ax, entry, rigid, Tree, Trees}
use Rattle.dps_terms.specs.Kinds.{IsBuiltOf, AreBuiltOf, AnyLeaf, IsName, IsFrameLeaf}
use Rattle.dps_signature.specs.Signature.{Signature, Shape, HasShape, HasArity, IsPublic, shapes}

-- a declared name is public there; each other leaf may stand
abbrev pub IsDeclared : Signature → PublicName → Type 0
IsDeclared signature (Declared n) = IsPublic signature n
IsDeclared signature (At k) = ⊤

abbrev pub IsLeafOver : Signature → Leaf → Type 0
IsLeafOver signature (public n) = IsDeclared signature n
IsLeafOver signature x = ⊤

-- over the signature: each symbol is there and has as many arguments as its arity says, and each declared name is
-- a public name there
abbrev pub IsOver : Signature → Tree → Type 0
IsOver signature t = IsBuiltOf (IsLeafOver signature) (HasArity (shapes signature)) t

-- of constructors alone, each with as many arguments as its arity says, over any leaves
abbrev pub IsConstructorTerm : List Shape → Tree → Type 0
IsConstructorTerm known t = IsBuiltOf AnyLeaf (HasShape known Constructor) t

abbrev pub AreConstructorTerms : List Shape → Trees → Type 0
AreConstructorTerms known ts = AreBuiltOf AnyLeaf (HasShape known Constructor) ts

-- of constructors over names: what evaluates to itself
abbrev pub IsPlain : List Shape → Tree → Type 0
IsPlain known t = IsBuiltOf IsName (HasShape known Constructor) t

-- a message of a frame: constructors over public and private names
abbrev pub IsFrameMessage : List Shape → Tree → Type 0
IsFrameMessage known t = IsBuiltOf IsFrameLeaf (HasShape known Constructor) t

-- a recipe over a frame of m messages: any symbols over public names and the handles `ax1` to `axm`
abbrev pub IsRecipeLeaf : Signature → ℕ → Leaf → Type 0
IsRecipeLeaf signature m (public n) = IsDeclared signature n
IsRecipeLeaf signature m (ax j) = (1 ≤ j) × (j ≤ m)
IsRecipeLeaf signature m (private n) = ⊥
IsRecipeLeaf signature m (var n) = ⊥
IsRecipeLeaf signature m (entry n) = ⊥
IsRecipeLeaf signature m (rigid n) = ⊥

abbrev pub IsRecipe : Signature → ℕ → Tree → Type 0
IsRecipe signature m t = IsBuiltOf (IsRecipeLeaf signature m) (HasArity (shapes signature)) t

-- a term as a file writes it: any symbols over declared public names, private names and variables
abbrev pub IsSourceName : Signature → PublicName → Type 0
IsSourceName signature (Declared n) = IsPublic signature n
IsSourceName signature (At k) = ⊥

abbrev pub IsSourceLeaf : Signature → Leaf → Type 0
IsSourceLeaf signature (public n) = IsSourceName signature n
IsSourceLeaf signature (private n) = ⊤
IsSourceLeaf signature (var n) = ⊤
IsSourceLeaf signature (ax n) = ⊥
IsSourceLeaf signature (entry n) = ⊥
IsSourceLeaf signature (rigid n) = ⊥

abbrev pub IsSourceTerm : Signature → Tree → Type 0
IsSourceTerm signature t = IsBuiltOf (IsSourceLeaf signature) (HasArity (shapes signature)) t

-- a term of a part that runs: the same, with what the attacker put in, his own names among it
abbrev pub IsPartLeaf : Signature → Leaf → Type 0
IsPartLeaf signature (public n) = IsDeclared signature n
IsPartLeaf signature (private n) = ⊤
IsPartLeaf signature (var n) = ⊤
IsPartLeaf signature (ax n) = ⊥
IsPartLeaf signature (entry n) = ⊥
IsPartLeaf signature (rigid n) = ⊥

abbrev pub IsPartTerm : Signature → Tree → Type 0
IsPartTerm signature t = IsBuiltOf (IsPartLeaf signature) (HasArity (shapes signature)) t
