-- What a reader may expect of the theory of a program. Each of these statements is the contract of a function of the crate.
use Rattle.dps_lex.specs.declared.vocabulary.Place.{Place}
use Rattle.dps_signature.specs.Signature.{shapes}
use Rattle.dps_theory.specs.Theory.{IsAccepted}
use Rattle.dps_theory.specs.Checking.{HaveFault}
use Rattle.dps_names.specs.Program.{Program}
use Rattle.dps_rules.specs.Rules.{Flaw, IsFlawed, rules_of, theory_of}

-- A program with a flaw in its rules has no accepted theory.
abbrev pub FlawedProgramsAreNotAccepted : Type 0
FlawedProgramsAreNotAccepted = (program : Program) (place : Place) (flaw : Flaw) → IsFlawed program place flaw → ¬ IsAccepted (theory_of program)

-- Where the rules of a program have a first fault, the program has a flaw.
abbrev pub FaultyProgramsAreFlawed : Type 0
FaultyProgramsAreFlawed = (program : Program) → HaveFault (shapes program.signature) (rules_of program) → (place : Place) × ((flaw : Flaw) × IsFlawed program place flaw)
