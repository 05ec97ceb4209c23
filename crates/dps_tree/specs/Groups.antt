-- Configurations by the numbers of their messages and parts.
use Rattle.std.specs.Prelude.{◌≡◌, ◌↔◌, ℕ, ◌<◌, List, [], length, Contains}
use Rattle.dps_terms.specs.Tree.{Tree}
use Rattle.dps_process.specs.Process.{Process}
use Rattle.dps_process.specs.Steps.{Config}
use Rattle.dps_tree.specs.Table.{StandFor, StandForBag, frame_of}
use Rattle.dps_tree.specs.declared.group.Group.{Group}
use Rattle.dps_tree.specs.declared.table.Table.{Table}

-- the configuration has the group's frame, and its parts are those of one of the group's bags
pub record IsIn (table : Table) (group : Group) (k : Config) : Type 0 where
  pub bag : List ℕ
  pub there : Contains group.bags bag
  pub parts : StandForBag table bag k.parts
  pub frame : k.frame ≡ frame_of table group.frame.items

-- the group has this bag alone, and no message
pub record IsStartGroup (bag : List ℕ) (group : Group) : Type 0 where
  pub frame : group.frame.items ≡ []
  pub bags : (b : List ℕ) → Contains group.bags b ↔ (b ≡ bag)

-- the configurations of the groups
abbrev pub Holds : Table → List Group → Config → Type 0
Holds table groups k = (g : Group) × Contains groups g × IsIn table g k

-- each number of the bag stands for a part, and so in each bag of the groups
abbrev pub StandForSome : Table → List ℕ → Type 0
StandForSome table bag = (ps : List Process) × StandFor table bag ps

abbrev pub IsNamed : Table → Group → Type 0
IsNamed table g = (bag : List ℕ) → Contains g.bags bag → StandForSome table bag

abbrev pub AreNamed : Table → List Group → Type 0
AreNamed table groups = (g : Group) → Contains groups g → IsNamed table g

-- the frames of the groups in which there is a bag
abbrev pub HoldsFrame : Table → List Group → List Tree → Type 0
HoldsFrame table groups frame = (g : Group) × Contains groups g × (0 < length g.bags) × (frame ≡ frame_of table g.frame.items)

-- some group in which there is a bag has just these numbers of messages
abbrev pub HasNumbers : List Group → List ℕ → Type 0
HasNumbers groups numbers = (g : Group) × Contains groups g × (0 < length g.bags) × (numbers ≡ g.frame.items)

-- the others have the numbers of each group
abbrev pub AreAmong : List Group → List Group → Type 0
AreAmong groups others = (g : Group) → Contains groups g → HasNumbers others g.frame.items

-- a bag stands in some group; and the others are one group
abbrev pub HaveConfiguration : List Group → Type 0
HaveConfiguration groups = (g : Group) × Contains groups g × (0 < length g.bags)

abbrev pub IsMutual : List Group → List Group → Type 0
IsMutual groups others = HaveConfiguration groups × (length others ≡ 1)
