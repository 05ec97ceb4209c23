-- The processes that a program means, and the first fault of a program that means none.
use Rattle.std.specs.Prelude.{ℕ, Bool, false, not, nat_eq, if◌then◌else◌, List, [], ◌∷◌, ◌++◌, Option, Some, None, is_some}
use Rattle.std.specs.List.{list_any}
use Rattle.dps_lex.specs.declared.vocabulary.Place.{Place}
use Rattle.dps_process.specs.Process.{Process}
use Rattle.dps_names.specs.Program.{Program}
use Rattle.dps_elab.specs.Expansion.{left_expansion, right_expansion}
use Rattle.dps_elab.specs.Limits.{is_too_large}
use Rattle.dps_elab.specs.declared.found.PrivateUse.{PrivateUse}
use Rattle.dps_elab.specs.declared.found.ChannelUse.{ChannelUse}
use Rattle.dps_elab.specs.declared.fault.ExpansionCause.{ExpansionCause}
use Rattle.dps_elab.specs.declared.fault.ExpansionCause.TheVariants.{TooLarge, NotAChannel, PrivateChannel}

-- the first of the list that passes
abbrev pub first_such : {X : Type 0} → (X → Bool) → List X → Option X
first_such passes [] = None
first_such passes (x ∷ xs) = if passes x then Some x else first_such passes xs

-- What writing out the sides comes to: two processes, or the first fault.
pub data Expanded : Type 0 where
  sides : Process → Process → Expanded
  refused : Place → ExpansionCause → Expanded

-- it is no declared name
abbrev pub is_no_channel : ChannelUse → Bool
is_no_channel c = not (is_some c.name)

-- the name is one of the channels
abbrev pub is_name : ℕ → Option ℕ → Bool
is_name n (Some m) = nat_eq n m
is_name n None = false

abbrev pub is_channel : List ChannelUse → ℕ → Bool
is_channel channels n = list_any (λ c. is_name n c.name) channels

-- The faults of expansion, in order: a side that is too large, at its first token; something in a channel's place that is no
-- declared name; and a private name in a term that is a channel of one of the sides, where the text writes it. The left
-- side is before the right one.
abbrev pub checked_privates : Process → Process → Option PrivateUse → Expanded
checked_privates left right (Some u) = refused u.place PrivateChannel
checked_privates left right None = sides left right

abbrev pub checked_channels : Process → Process → List ChannelUse → List PrivateUse → Option ChannelUse → Expanded
checked_channels left right channels privates (Some c) = refused c.place NotAChannel
checked_channels left right channels privates None = checked_privates left right (first_such (λ u. is_channel channels u.name) privates)

-- two sides, with what stands in the places of their channels, and the private names in their terms
abbrev pub checked : Process → Process → List ChannelUse → List PrivateUse → Expanded
checked left right channels privates = checked_channels left right channels privates (first_such is_no_channel channels)

abbrev pub expanded : Program → Expanded
expanded program =
    let left = left_expansion program in
    let right = right_expansion program in
    if is_too_large left.process then refused program.left.place TooLarge
    else (if is_too_large right.process then refused program.right.place TooLarge
    else checked left.process right.process (left.channels ++ right.channels) (left.privates ++ right.privates))
