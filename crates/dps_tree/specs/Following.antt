-- Which configurations follow those of a set, and on which channels.
use Rattle.std.specs.Prelude.{◌≡◌, ◌⊎◌, ◌↔◌, ℕ, suc, ◌+◌, List, [], ◌∷◌, ◌++◌, take, drop, Option, Some, None, slice_get, Contains}
use Rattle.std.specs.List.Sorted.{IsPermutation}
use Rattle.std.specs.Ordering.{nat_cmp}
use Rattle.std.specs.BTreeMap.{get}
use Rattle.dps_process.specs.Steps.{Config, AreOneBag}
use Rattle.dps_tree.specs.Playing.{Follows, Offers}
use Rattle.dps_tree.specs.declared.table.Output.{Output}
use Rattle.dps_tree.specs.declared.table.Table.{Table}
use Rattle.dps_tree.specs.declared.group.Group.{Group}
use Rattle.dps_tree.specs.declared.next.Next.{Next}

-- the configuration follows one of the set, up to the order of its parts
abbrev pub FollowsOne : (Config → Type 0) → ℕ → Config → Type 0
FollowsOne configs c k = (j : Config) × configs j × ((next : Config) × Follows j c next × AreOneBag next k)

-- just the configurations that follow
abbrev pub AreFollowing : (Config → Type 0) → ℕ → (Config → Type 0) → Type 0
AreFollowing configs c found = (k : Config) → found k ↔ FollowsOne configs c k

-- the bag has a number of this output at the place
abbrev pub IsOutputAt : Table → List ℕ → ℕ → Output → Type 0
IsOutputAt table bag i o = (n : ℕ) × (slice_get bag i ≡ Some n) × (slice_get table.outputs.items n ≡ Some o)

-- the bag without its number at the place, and with the others, in any order
abbrev pub IsAfter : List ℕ → ℕ → List ℕ → List ℕ → Type 0
IsAfter bag i then next = IsPermutation ((take i bag ++ drop (i + 1) bag) ++ then) next

-- an output on the channel, at the place, leaves the message with this number and the other bag
pub record GoesOnAt (table : Table) (bag : List ℕ) (c i m : ℕ) (next : List ℕ) : Type 0 where
  pub output : Output
  pub there : IsOutputAt table bag i output
  pub channel : output.channel ≡ c
  pub message : output.message ≡ m
  pub after : IsAfter bag i output.then.items next

-- the same at some place, and for some bag of a list
abbrev pub GoesOn : Table → List ℕ → ℕ → ℕ → List ℕ → Type 0
GoesOn table bag c m next = (i : ℕ) × GoesOnAt table bag c i m next

abbrev pub OneGoesOn : Table → List (List ℕ) → ℕ → ℕ → List ℕ → Type 0
OneGoesOn table bags c m next = (bag : List ℕ) × Contains bags bag × GoesOn table bag c m next

-- the bag stands at the message
abbrev pub StandsAt : Next → ℕ → List ℕ → Type 0
StandsAt next m bag = (bags : List (List ℕ)) × (get nat_cmp next.bags m ≡ Some bags) × Contains bags bag

-- the bags that stood there, or none
abbrev pub IsTaken : Option (List (List ℕ)) → List (List ℕ) → Type 0
IsTaken None bags = bags ≡ []
IsTaken (Some there) bags = bags ≡ there

-- the same bags stand at each other message
abbrev pub AreSameBut : ℕ → Next → Next → Type 0
AreSameBut m old new = (q : ℕ) → ¬ (q ≡ m) → get nat_cmp new.bags q ≡ get nat_cmp old.bags q

-- the new one has besides, in some order, the bags for which P holds
pub record IsMore (P : ℕ → List ℕ → Type 0) (old new : Next) : Type 0 where
  pub kept : (m : ℕ) (bag : List ℕ) → StandsAt old m bag → StandsAt new m bag
  pub added : (m : ℕ) (bag : List ℕ) → P m bag → (other : List ℕ) × IsPermutation bag other × StandsAt new m other
  pub sound : (m : ℕ) (bag : List ℕ) → StandsAt new m bag → StandsAt old m bag ⊎ P m bag

-- it has, in some order, just the bags for which P holds
pub record IsJust (P : ℕ → List ℕ → Type 0) (next : Next) : Type 0 where
  pub complete : (m : ℕ) (bag : List ℕ) → P m bag → (other : List ℕ) × IsPermutation bag other × StandsAt next m other
  pub sound : (m : ℕ) (bag : List ℕ) → StandsAt next m bag → P m bag

-- one of the groups has this frame with the message at its end, and this bag
abbrev pub HasLonger : List Group → List ℕ → ℕ → List ℕ → Type 0
HasLonger groups frame m bag =
    (g : Group) × Contains groups g × (g.frame.items ≡ frame ++ m ∷ []) × Contains g.bags bag

-- the new list has besides just the bags for which P holds, by their frame and their last message
pub record AreMore (P : List ℕ → ℕ → List ℕ → Type 0) (old new : List Group) : Type 0 where
  pub kept : (g : Group) → Contains old g → Contains new g
  pub added : (frame : List ℕ) (m : ℕ) (bag : List ℕ) → P frame m bag → (other : List ℕ) × IsPermutation bag other × HasLonger new frame m other
  pub sound :
      (g : Group) → Contains new g → Contains old g ⊎ ((frame : List ℕ) × (m : ℕ) × (g.frame.items ≡ frame ++ m ∷ []) × ((bag : List ℕ) → Contains g.bags bag → P frame m bag))

-- the number at this place is the one before it
abbrev pub IsRepeated : List ℕ → ℕ → Type 0
IsRepeated bag i = (j : ℕ) × (n : ℕ) × (i ≡ suc j) × (slice_get bag j ≡ Some n) × (slice_get bag i ≡ Some n)

-- the bag stands at the message, after the frame
abbrev pub LeadsOn : List ℕ → Next → List ℕ → ℕ → List ℕ → Type 0
LeadsOn last next frame m bag = (frame ≡ last) × StandsAt next m bag

-- some bag of the group goes on
abbrev pub GroupGoesOn : Table → Group → ℕ → List ℕ → ℕ → List ℕ → Type 0
GroupGoesOn table group c frame m next = (frame ≡ group.frame.items) × OneGoesOn table group.bags c m next

abbrev pub GroupsGoOn : Table → List Group → ℕ → List ℕ → ℕ → List ℕ → Type 0
GroupsGoOn table groups c frame m next = (g : Group) × Contains groups g × GroupGoesOn table g c frame m next

-- some configuration of the set offers an output on the channel
abbrev pub OneOffers : (Config → Type 0) → ℕ → Type 0
OneOffers configs c = (k : Config) × configs k × Offers k c

-- the number is of an output on the channel
abbrev pub NumberOffers : Table → ℕ → ℕ → Type 0
NumberOffers table n c = (o : Output) × (slice_get table.outputs.items n ≡ Some o) × (o.channel ≡ c)

-- a number of the bag is, and of one of the bags of a list or of groups
abbrev pub BagOffers : Table → List ℕ → ℕ → Type 0
BagOffers table bag c = (n : ℕ) × Contains bag n × NumberOffers table n c

abbrev pub OneBagOffers : Table → List (List ℕ) → ℕ → Type 0
OneBagOffers table bags c = (bag : List ℕ) × Contains bags bag × BagOffers table bag c

abbrev pub GroupsOffer : Table → List Group → ℕ → Type 0
GroupsOffer table groups c = (g : Group) × Contains groups g × OneBagOffers table g.bags c

-- the new list has the channels for which P holds besides
abbrev pub AddsOffers : (ℕ → Type 0) → List ℕ → List ℕ → Type 0
AddsOffers P old new = (c : ℕ) → Contains new c ↔ (Contains old c ⊎ P c)
