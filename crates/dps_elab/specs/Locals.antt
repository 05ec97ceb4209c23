-- What the locals stand for while a side is written out. They stand on a stack, those of a definition behind those of its
-- caller.
use Rattle.std.specs.Prelude.{ℕ, ◌<◌, List, [], ◌∷◌, ◌++◌, take, drop, ⊤}
use Rattle.dps_terms.specs.Tree.{var, private}
use Rattle.dps_elab.specs.Expansion.{Value, made, value_of}
use Rattle.dps_elab.specs.declared.local.Frame.{Frame}
use Rattle.dps_elab.specs.declared.local.Local.{Local}
use Rattle.dps_elab.specs.declared.local.Local.TheVariants.{Variable, Name, Argument}

-- the locals of one definition
abbrev pub in_frame : List Value → Frame → List Value
in_frame values frame = drop frame.first (take frame.end values)

-- What a local stands for, by what those below it on the stack stand for. An argument is a term over the locals of the
-- caller.
abbrev pub local_value : List Value → Local → Value
local_value below (Variable n) = made (var n)
local_value below (Name n) = made (private n)
local_value below (Argument w frame) = value_of (in_frame below frame) w.now

-- what all that is on the stack stands for, from the bottom
abbrev pub values_on : List Value → List Local → List Value
values_on below [] = below
values_on below (l ∷ ls) = values_on (below ++ local_value below l ∷ []) ls

abbrev pub values : List Local → List Value
values ls = values_on [] ls

-- the locals of the definition that is written out: all from the first on
abbrev pub locals_from : ℕ → List Local → List Value
locals_from first ls = drop first (values ls)

-- an argument is a term over locals that stand lower on the stack
abbrev pub IsBelow : ℕ → Local → Type 0
IsBelow end (Variable n) = ⊤
IsBelow end (Name n) = ⊤
IsBelow end (Argument w frame) = frame.end < end
