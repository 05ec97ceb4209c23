-- What is wrong with a text, and what is printed for it.
use Rattle.std.specs.Prelude.{ℕ, List, ◌++◌, codes}
use Rattle.std.specs.Fmt.{decimal}
use Rattle.dps_lex.specs.declared.vocabulary.FaultKind.{FaultKind}
use Rattle.dps_lex.specs.Spelling.{fault_words}
use Rattle.dps_scopes.specs.declared.fault.NameCause.{NameCause}
use Rattle.dps_scopes.specs.declared.fault.NameCause.TheVariants as name
use Rattle.dps_theory.specs.declared.form.FormFault.{FormFault}
use Rattle.dps_theory.specs.declared.form.FormFault.TheVariants as fault
use Rattle.dps_rules.specs.Rules.{Flaw, flaw_of, form, overlap}
use Rattle.dps_elab.specs.declared.fault.ExpansionCause.{ExpansionCause}
use Rattle.dps_elab.specs.declared.fault.ExpansionCause.TheVariants as expansion
use Rattle.dps_meaning.specs.declared.cause.ElabCause.{ElabCause}
use Rattle.dps_meaning.specs.declared.cause.ElabCause.TheVariants as elab

-- What is wrong: it can not be read; or something is wrong with its names, with its rules, or with its sides.
pub data Cause : Type 0 where
  reading : FaultKind → Cause
  names : NameCause → Cause
  rules : Flaw → Cause
  sides : ExpansionCause → Cause

-- the cause that is answered for a file
abbrev pub cause_of : ElabCause → Cause
cause_of (elab.Names cause) = names cause
cause_of (elab.Rules cause) = rules (flaw_of cause)
cause_of (elab.Sides cause) = sides cause

abbrev pub name_text : NameCause → List ℕ
name_text name.NameTwice = codes "name twice"
name_text name.ReservedName = codes "reserved name"
name_text name.UnknownName = codes "unknown name"
name_text name.WrongArity = codes "wrong arity"
name_text name.WrongKind = codes "wrong kind"
name_text name.LargeArity = codes "large arity"
name_text name.PrivateInRule = codes "private in rule"
name_text name.BadCopies = codes "bad copies"

-- a text that begins with the number of a rule
abbrev pub of_rule : ℕ → List ℕ → List ℕ
of_rule n text = codes "rule " ++ (decimal n ++ (codes ": " ++ text))

abbrev pub form_text : FormFault → List ℕ
form_text fault.RootNotDestructor = codes "left root is a constructor"
form_text fault.ArgumentNotConstructor = codes "destructor inside an argument"
form_text fault.RightNotConstructor = codes "destructor on the right"
form_text fault.NotSubterm = codes "right side is no strict subterm and not ground"

abbrev pub flaw_text : Flaw → List ℕ
flaw_text (form n fault) = of_rule n (form_text fault)
flaw_text (overlap m n bindings) = codes "overlap of rules " ++ (decimal m ++ (codes " and " ++ (decimal n ++ (codes " under " ++ bindings))))

abbrev pub expansion_text : ExpansionCause → List ℕ
expansion_text expansion.TooLarge = codes "too large"
expansion_text expansion.NotAChannel = codes "not a channel"
expansion_text expansion.PrivateChannel = codes "private channel in a term"

-- what is printed for a cause
abbrev pub cause_text : Cause → List ℕ
cause_text (reading kind) = fault_words kind
cause_text (names cause) = name_text cause
cause_text (rules flaw) = flaw_text flaw
cause_text (sides cause) = expansion_text cause
