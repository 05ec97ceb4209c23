-- What a call that writes out a program answers.
use Rattle.std.specs.Prelude.{◌≡◌, Option, Some, None, ⊤}
use Rattle.dps_lex.specs.declared.vocabulary.Place.{Place}
use Rattle.dps_process.specs.Process.{Process}
use Rattle.dps_elab.specs.Meaning.{Expanded, sides, refused}
use Rattle.dps_elab.specs.declared.fault.ExpandRefusal.{ExpandRefusal}
use Rattle.dps_elab.specs.declared.fault.ExpandRefusal.TheVariants.{Fault, Memory}
use Rattle.dps_elab.specs.declared.fault.ExpansionCause.TheVariants.{TooLarge}
use Rattle.dps_elab.specs.declared.fault.ExpansionFault.{ExpansionFault}
use Rattle.dps_elab.specs.declared.stop.Stop.{Stop}
use Rattle.dps_elab.specs.declared.stop.Stop.TheVariants as stop

-- two sides without a fault, or the first one
abbrev pub answered : Process → Process → Option ExpansionFault → Expanded
answered left right None = sides left right
answered left right (Some fault) = refused fault.place fault.cause

-- A refusal names the fault of the program. Of want of memory nothing is said.
abbrev pub IsRefusal : ExpandRefusal → Expanded → Type 0
IsRefusal (Fault fault) e = e ≡ refused fault.place fault.cause
IsRefusal Memory e = ⊤

-- a side that begins at the place was not written
abbrev pub refusal_of : Stop → Place → ExpandRefusal
refusal_of stop.TooLarge place = Fault (record { place = place; cause = TooLarge })
refusal_of stop.Memory place = Memory
