-- Nodes of the tree of outputs.
use Rattle.std.specs.Prelude.{◌≡◌, ◌⊎◌, ◌↔◌, ℕ, List, [], ◌∷◌, ◌++◌, Option, Some, None, Contains, ⊤}
use Rattle.dps_branch.specs.declared.Side.{Side}
use Rattle.dps_branch.specs.declared.Side.TheVariants.{Left, Right}
use Rattle.dps_signature.specs.Signature.{Signature}
use Rattle.dps_theory.specs.Theory.{Theory}
use Rattle.dps_process.specs.Steps.{Config}
use Rattle.dps_tree.specs.Table.{StandForBag}
use Rattle.dps_tree.specs.Groups.{Holds, HoldsFrame, AreNamed}
use Rattle.dps_tree.specs.Following.{AreFollowing, OneOffers}
use Rattle.dps_tree.specs.Matching.{AreFrames, AreMatched, OneIsUnmatched}
use Rattle.dps_tree.specs.Words.{IsAhead}
use Rattle.dps_tree.specs.declared.node.Node.{Node}
use Rattle.dps_tree.specs.declared.table.Table.{Table}

-- the configuration has put nothing out, and the numbers stand for its parts
abbrev pub IsStart : Table → List ℕ → Config → Type 0
IsStart table bag k = StandForBag table bag k.parts × (k.frame ≡ [])

-- just the configurations of this start
abbrev pub AreStarts : Table → List ℕ → (Config → Type 0) → Type 0
AreStarts table bag configs = (k : Config) → configs k ↔ IsStart table bag k

-- each bag of the node stands for parts
pub record IsNamedNode (table : Table) (node : Node) : Type 0 where
  pub left : AreNamed table node.left.items
  pub right : AreNamed table node.right.items

-- the node of no output, where the sides start with these bags, if these stand for parts
pub record IsRoot (table : Table) (left right : List ℕ) (node : Node) : Type 0 where
  pub channels : node.channels.items ≡ []
  pub on_left : AreStarts table left (Holds table node.left.items)
  pub on_right : AreStarts table right (Holds table node.right.items)
  pub named : IsNamedNode table node

-- some configuration of either side offers an output on the channel
abbrev pub NodeOffers : Table → Node → ℕ → Type 0
NodeOffers table node c = OneOffers (Holds table node.left.items) c ⊎ OneOffers (Holds table node.right.items) c

-- just those channels
abbrev pub HoldsOffers : Table → Node → List ℕ → Type 0
HoldsOffers table node channels = (c : ℕ) → Contains channels c ↔ NodeOffers table node c

-- the node of one more output
pub record IsChild (table : Table) (node : Node) (c : ℕ) (child : Node) : Type 0 where
  pub channels : child.channels.items ≡ node.channels.items ++ c ∷ []
  pub left : AreFollowing (Holds table node.left.items) c (Holds table child.left.items)
  pub right : AreFollowing (Holds table node.right.items) c (Holds table child.right.items)
  pub named : IsNamedNode table child

-- each later node of the list is ahead of each earlier one
abbrev pub AreInOrder : List Node → Type 0
AreInOrder [] = ⊤
AreInOrder (n ∷ ns) = ((m : Node) → Contains ns m → IsAhead m.channels.items n.channels.items) × AreInOrder ns

-- one node for each channel on which there is an output, the greatest channel first
pub record AreChildren (table : Table) (node : Node) (children : List Node) : Type 0 where
  pub offered : (child : Node) → Contains children child → (c : ℕ) × NodeOffers table node c × IsChild table node c child
  pub complete : (c : ℕ) → NodeOffers table node c → (child : Node) × Contains children child × (child.channels.items ≡ node.channels.items ++ c ∷ [])
  pub ordered : AreInOrder children

-- which side has a frame that none of the other matches; the left one where both have
abbrev pub SideAnswer : Table → Node → Signature → Theory → Option Side → Type 0
SideAnswer table node signature theory None =
    AreMatched signature theory (HoldsFrame table node.left.items) (HoldsFrame table node.right.items)
    × AreMatched signature theory (HoldsFrame table node.right.items) (HoldsFrame table node.left.items)
SideAnswer table node signature theory (Some Left) =
    OneIsUnmatched signature theory (HoldsFrame table node.left.items) (HoldsFrame table node.right.items)
SideAnswer table node signature theory (Some Right) =
    OneIsUnmatched signature theory (HoldsFrame table node.right.items) (HoldsFrame table node.left.items)
    × AreMatched signature theory (HoldsFrame table node.left.items) (HoldsFrame table node.right.items)

-- over each signature over which the theory and all frames are
abbrev pub IsSideAnswer : Table → Theory → Node → Option Side → Type 0
IsSideAnswer table theory node answer =
    (signature : Signature) → AreFrames signature theory (HoldsFrame table node.left.items)
    → AreFrames signature theory (HoldsFrame table node.right.items) → SideAnswer table node signature theory answer
