-- The first faults of the declarations of a file, and of a text.
use Rattle.std.specs.Prelude.{◌≡◌, ℕ, List}
use Rattle.dps_lex.specs.declared.vocabulary.Place.{Place}
use Rattle.dps_lex.specs.declared.vocabulary.Fault.{Fault}
use Rattle.dps_syntax.specs.declared.tree.Decl.{Decl}
use Rattle.dps_syntax.specs.Files.{IsFirstFault}
use Rattle.dps_theory.specs.Theory.{IsAccepted}
use Rattle.dps_scopes.specs.declared.fault.NameFault.{NameFault}
use Rattle.dps_scopes.specs.Outcome.{faulty}
use Rattle.dps_names.specs.Program.{Program}
use Rattle.dps_names.specs.Answers.{IsProgram}
use Rattle.dps_names.specs.Declarations.{names_of}
use Rattle.dps_rules.specs.Rules.{Flaw, IsFlawed, theory_of}
use Rattle.dps_elab.specs.declared.fault.ExpansionCause.{ExpansionCause}
use Rattle.dps_elab.specs.Meaning.{expanded, refused}
use Rattle.dps_meaning.specs.Causes.{Cause, reading, names, rules, sides}
use Rattle.dps_meaning.specs.Meaning.{HasDeclarations}

-- The first fault of the declarations up to their rules: that of their names; where they have none, that of their rules.
pub data IsTheoryFault (decls : List Decl) (place : Place) (cause : Cause) : Type 0 where
  misnamed : (fault : NameFault) → names_of decls ≡ faulty fault → place ≡ fault.place → cause ≡ names fault.cause → IsTheoryFault decls place cause
  flawed : (program : Program) (flaw : Flaw) → IsProgram decls program → IsFlawed program place flaw → cause ≡ rules flaw → IsTheoryFault decls place cause

-- The first fault of the declarations: that up to their rules; where they have none, that of their sides.
pub data IsFaultOf (decls : List Decl) (place : Place) (cause : Cause) : Type 0 where
  untheoried : IsTheoryFault decls place cause → IsFaultOf decls place cause
  unwritten :
      (program : Program) (why : ExpansionCause) → IsProgram decls program → IsAccepted (theory_of program) → expanded program ≡ refused place why
      → cause ≡ sides why → IsFaultOf decls place cause

-- The first fault of a text: that of reading it; where it has none, that of its declarations, of this kind.
pub data IsFirst (IsOf : List Decl → Place → Cause → Type 0) (bytes : List ℕ) (place : Place) (cause : Cause) : Type 0 where
  unread : (fault : Fault) → IsFirstFault bytes fault → place ≡ record { line = fault.line; column = fault.column } → cause ≡ reading fault.kind → IsFirst IsOf bytes place cause
  declared : (decls : List Decl) → HasDeclarations bytes decls → IsOf decls place cause → IsFirst IsOf bytes place cause

-- the first fault of the text up to its rules
abbrev pub HasTheoryFault : List ℕ → Place → Cause → Type 0
HasTheoryFault bytes place cause = IsFirst IsTheoryFault bytes place cause

-- the first fault of the text
abbrev pub HasFault : List ℕ → Place → Cause → Type 0
HasFault bytes place cause = IsFirst IsFaultOf bytes place cause
