-- What a reader may expect of what files say. Each of these statements is the contract of a function of the crate.
use Rattle.std.specs.Prelude.{◌≡◌, ◌≤◌, ℕ, List, length, map}
use Rattle.dps_syntax.specs.declared.tree.Decl.{Decl}
use Rattle.dps_syntax.specs.Files.{trees_of}
use Rattle.dps_syntax.specs.LawsOfFiles.{IsTreeOfText}
use Rattle.dps_theory.specs.Conditions.{AreCheckable}
use Rattle.dps_scopes.specs.Outcome.{done}
use Rattle.dps_names.specs.Program.{Program}
use Rattle.dps_names.specs.Declarations.{names_of}
use Rattle.dps_names.specs.WellFormed.{IsWellFormed}

-- The rules of a text of at most 1,048,576 bytes may be checked.
abbrev pub RulesAreCheckable : Type 0
RulesAreCheckable =
    (bytes : List ℕ) (decls : List Decl) (program : Program) → length bytes ≤ 1048576 → IsTreeOfText bytes (trees_of decls)
    → names_of decls ≡ done tt program → AreCheckable program.signature (map (λ r. r.rule) program.rules)

-- What declarations say is well formed.
abbrev pub ProgramsAreWellFormed : Type 0
ProgramsAreWellFormed = (decls : List Decl) (program : Program) → names_of decls ≡ done tt program → IsWellFormed program
