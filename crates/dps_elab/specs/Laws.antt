-- What a reader may expect of the processes that a program means. Each of these statements is the contract of a function of
-- the crate.
use Rattle.std.specs.Prelude.{◌≡◌, ◌≤◌, ◌^◌}
use Rattle.dps_process.specs.Process.{Process, EachBinder}
use Rattle.dps_process.specs.Problem.{IsLawfulSide}
use Rattle.dps_names.specs.Program.{Program}
use Rattle.dps_names.specs.WellFormed.{IsWellFormed}
use Rattle.dps_elab.specs.Meaning.{expanded, sides}

-- the sides that a well formed program is written out to are lawful
abbrev pub SidesAreLawful : Type 0
SidesAreLawful =
    (program : Program) (left right : Process)
    → IsWellFormed program
    → expanded program ≡ sides left right
    → IsLawfulSide program.signature left × IsLawfulSide program.signature right

-- the bound variables of sides that are written out have numbers from 2^63 on
abbrev pub BindersAreHigh : Type 0
BindersAreHigh =
    (program : Program) (left right : Process)
    → expanded program ≡ sides left right
    → EachBinder (λ x. 2 ^ 63 ≤ x) left × EachBinder (λ x. 2 ^ 63 ≤ x) right
