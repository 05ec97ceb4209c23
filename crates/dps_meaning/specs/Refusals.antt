-- What the calls answer.
use Rattle.std.specs.Prelude.{◌≡◌, ◌<◌, ◌^◌, List, length, ⊤}
use Rattle.dps_lex.specs.declared.vocabulary.Place.{Place}
use Rattle.dps_syntax.specs.declared.tree.Decl.{Decl}
use Rattle.dps_process.specs.Models.{Model}
use Rattle.dps_process.specs.Process.{Process}
use Rattle.dps_process.specs.Problem.{Problem, IsLawfulTheory}
use Rattle.dps_scopes.specs.declared.fault.NameRefusal.{NameRefusal}
use Rattle.dps_scopes.specs.declared.fault.NameRefusal.TheVariants as name
use Rattle.dps_names.specs.Answers.{IsProgram}
use Rattle.dps_rules.specs.Rules.{theory_of}
use Rattle.dps_rules.specs.declared.fault.RuleRefusal.{RuleRefusal}
use Rattle.dps_rules.specs.declared.fault.RuleRefusal.TheVariants as rule
use Rattle.dps_elab.specs.declared.fault.ExpandRefusal.{ExpandRefusal}
use Rattle.dps_elab.specs.declared.fault.ExpandRefusal.TheVariants as expand
use Rattle.dps_meaning.specs.declared.cause.ElabRefusal.{ElabRefusal}
use Rattle.dps_meaning.specs.declared.cause.ElabRefusal.TheVariants.{Fault, Memory}
use Rattle.dps_meaning.specs.declared.theory.CheckedFile.{CheckedFile}
use Rattle.dps_meaning.specs.declared.cause.ElabCause.TheVariants as elab
use Rattle.dps_meaning.specs.Causes.{Cause, cause_of}
use Rattle.dps_meaning.specs.Faults.{IsTheoryFault, IsFaultOf}

-- The refusal has a fault of this kind. Of being out of memory nothing is said.
abbrev pub IsRefusal : (Place → Cause → Type 0) → ElabRefusal → Type 0
IsRefusal IsFault (Fault line column cause) = IsFault (record { line = line; column = column }) (cause_of cause)
IsRefusal IsFault Memory = ⊤

-- the declarations have no theory, for their first fault
abbrev pub IsTheoryRefusal : List Decl → ElabRefusal → Type 0
IsTheoryRefusal decls refusal = IsRefusal (IsTheoryFault decls) refusal

-- they mean no problem, for their first fault
abbrev pub IsProblemRefusal : List Decl → ElabRefusal → Type 0
IsProblemRefusal decls refusal = IsRefusal (IsFaultOf decls) refusal

-- The declarations say this program, and this is its theory, which is accepted.
pub record IsChecked (decls : List Decl) (checked : CheckedFile) : Type 0 where
  pub named : IsProgram decls checked.program
  pub theory : checked.theory ≡ theory_of checked.program
  pub lawful : IsLawfulTheory checked.program.signature checked.theory
  pub few : length checked.program.rules < 2 ^ 24

-- the problem of two sides of a checked file, in a model
abbrev pub checked_problem : CheckedFile → Model → Process → Process → Problem
checked_problem checked model left right = record { signature = checked.program.signature; theory = checked.theory; model = model; left = left; right = right }

-- the same refusal, of the names, the rules or the sides of a file
abbrev pub names_refusal : NameRefusal → ElabRefusal
names_refusal (name.Fault fault) = Fault fault.place.line fault.place.column (elab.Names fault.cause)
names_refusal name.Memory = Memory

abbrev pub rules_refusal : RuleRefusal → ElabRefusal
rules_refusal (rule.Fault fault) = Fault fault.place.line fault.place.column (elab.Rules fault.cause)
rules_refusal rule.Memory = Memory

abbrev pub sides_refusal : ExpandRefusal → ElabRefusal
sides_refusal (expand.Fault fault) = Fault fault.place.line fault.place.column (elab.Sides fault.cause)
sides_refusal expand.Memory = Memory
