-- The result of each name.
use Rattle.std.specs.Prelude.{ℕ, List, Option, Some, None, codes, if◌then◌else◌}
use Rattle.std.specs.Str.{bytes_eq}
use Rattle.std.specs.Option.{option_map}
use Rattle.dps_report.specs.declared.outcome.StopName.{StopName}
use Rattle.dps_report.specs.declared.outcome.StopName.TheVariants.{TooLong, OpenFault, ReadFault, WordsRefused}
use Rattle.dps_report.specs.declared.results.ResultName.{ResultName}
use Rattle.dps_report.specs.declared.results.ResultName.TheVariants.{Equivalent, NotEquivalent, Spent, Refused, Stopped, TheoryAccepted, Attack, Matched, NoRun, NoMemory}

abbrev pub first_named : List ℕ → Option ResultName
first_named text =
    if bytes_eq text (codes "equivalent") then Some Equivalent
    else if bytes_eq text (codes "not equivalent") then Some NotEquivalent
    else if bytes_eq text (codes "spent") then Some Spent
    else if bytes_eq text (codes "refused") then Some Refused
    else if bytes_eq text (codes "theory accepted") then Some TheoryAccepted
    else None

abbrev pub last_named : List ℕ → Option ResultName
last_named text =
    if bytes_eq text (codes "attack") then Some Attack
    else if bytes_eq text (codes "matched") then Some Matched
    else if bytes_eq text (codes "no run") then Some NoRun
    else if bytes_eq text (codes "no memory") then Some NoMemory
    else None

abbrev pub stop_named : List ℕ → Option StopName
stop_named text =
    if bytes_eq text (codes "too long") then Some TooLong
    else if bytes_eq text (codes "open fault") then Some OpenFault
    else if bytes_eq text (codes "read fault") then Some ReadFault
    else if bytes_eq text (codes "words refused") then Some WordsRefused
    else None

abbrev pub or_else : Option ResultName → Option ResultName → Option ResultName
or_else None other = other
or_else (Some name) other = Some name

abbrev pub result_named : List ℕ → Option ResultName
result_named text = or_else (first_named text) (or_else (last_named text) (option_map (λ name. Stopped name) (stop_named text)))
