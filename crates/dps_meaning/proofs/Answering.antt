-- From the calls to what a file means.
use Rattle.std.proofs.Common.{◌≡◌, ◌<◌, ◌≤◌, ◌^◌, ℕ, List, length, refl, sym, subst, arith}
use Rattle.std.proofs.lemmas.List.{length-map}
use Rattle.dps_lex.specs.declared.vocabulary.Place.{Place}
use Rattle.dps_syntax.specs.declared.tree.Decl.{Decl}
use Rattle.dps_theory.specs.Theory.{IsAccepted}
use Rattle.dps_theory.specs.Conditions.{AreCheckable}
use Rattle.dps_process.specs.Models.{Model}
use Rattle.dps_process.specs.Process.{Process}
use Rattle.dps_process.specs.Problem.{Problem, IsLawful, HasHighBinders}
use Rattle.dps_scopes.specs.declared.fault.NameRefusal.{NameRefusal}
use Rattle.dps_scopes.specs.declared.fault.NameRefusal.TheVariants as name
use Rattle.dps_names.specs.Program.{WrittenRule, Program}
use Rattle.dps_names.specs.Answers.{IsProgram, IsRefused}
use Rattle.dps_names.specs.Laws.{RulesAreCheckable, ProgramsAreWellFormed}
use Rattle.dps_rules.specs.Rules.{rules_of, flaw_of, IsRuleRefusal}
use Rattle.dps_rules.specs.declared.fault.RuleRefusal.{RuleRefusal}
use Rattle.dps_rules.specs.declared.fault.RuleRefusal.TheVariants as rule
use Rattle.dps_elab.specs.declared.fault.ExpandRefusal.{ExpandRefusal}
use Rattle.dps_elab.specs.declared.fault.ExpandRefusal.TheVariants as expand
use Rattle.dps_elab.specs.Answers.{IsRefusal as IsExpandRefusal}
use Rattle.dps_elab.specs.Meaning.{expanded, sides}
use Rattle.dps_elab.specs.Laws.{SidesAreLawful, BindersAreHigh}
use Rattle.dps_meaning.specs.declared.cause.ElabRefusal.{ElabRefusal}
use Rattle.dps_meaning.specs.declared.cause.ElabRefusal.TheVariants.{Fault, Memory}
use Rattle.dps_meaning.specs.declared.theory.CheckedFile.{CheckedFile}
use Rattle.dps_meaning.specs.Meaning.{AreOfText, IsProblemOf}
use Rattle.dps_meaning.specs.Faults.{misnamed, flawed, untheoried, unwritten}
use Rattle.dps_meaning.specs.Refusals.{IsTheoryRefusal, IsProblemRefusal, IsChecked, checked_problem, names_refusal, rules_refusal, sides_refusal}

-- refusals

of_names : (decls : List Decl) (r : NameRefusal) → IsRefused decls r → IsTheoryRefusal decls (names_refusal r)
of_names decls (name.Fault fault) h = misnamed fault h refl refl
of_names decls name.Memory h = tt

pub names_refused : (decls : List Decl) (r : NameRefusal) (e : ElabRefusal) → IsRefused decls r → e ≡ names_refusal r → IsTheoryRefusal decls e
names_refused decls r e h k = subst (IsTheoryRefusal decls) (sym k) (of_names decls r h)

of_rules : (decls : List Decl) (program : Program) → IsProgram decls program → (r : RuleRefusal) → IsRuleRefusal program r → IsTheoryRefusal decls (rules_refusal r)
of_rules decls program named (rule.Fault fault) h = flawed program (flaw_of fault.cause) named h refl
of_rules decls program named rule.Memory h = tt

pub rules_refused : (decls : List Decl) (program : Program) → IsProgram decls program → (r : RuleRefusal) (e : ElabRefusal) → IsRuleRefusal program r → e ≡ rules_refusal r → IsTheoryRefusal decls e
rules_refused decls program named r e h k = subst (IsTheoryRefusal decls) (sym k) (of_rules decls program named r h)

of_sides : (decls : List Decl) (checked : CheckedFile) → IsChecked decls checked → (r : ExpandRefusal) → IsExpandRefusal r (expanded checked.program) → IsProblemRefusal decls (sides_refusal r)
of_sides decls checked c (expand.Fault fault) h = unwritten checked.program fault.cause c.named (subst IsAccepted c.theory c.lawful.accepted) h refl
of_sides decls checked c expand.Memory h = tt

pub sides_refused :
    (decls : List Decl) (checked : CheckedFile) → IsChecked decls checked → (r : ExpandRefusal) (e : ElabRefusal) → IsExpandRefusal r (expanded checked.program)
    → e ≡ sides_refusal r → IsProblemRefusal decls e
sides_refused decls checked c r e h k = subst (IsProblemRefusal decls) (sym k) (of_sides decls checked c r h)

pub theory_refused : (decls : List Decl) (e : ElabRefusal) → IsTheoryRefusal decls e → IsProblemRefusal decls e
theory_refused decls (Fault line column cause) h = untheoried h
theory_refused decls Memory h = tt

-- theories

pub checkable : RulesAreCheckable → (decls : List Decl) (program : Program) → AreOfText decls → IsProgram decls program → AreCheckable program.signature (rules_of program)
checkable law decls program text named = law text.bytes decls program text.short text.text.tree named

pub few_rules : RulesAreCheckable → (decls : List Decl) (program : Program) → AreOfText decls → IsProgram decls program → length program.rules < 2 ^ 24
few_rules law decls program text named =
    omega (arith, (checkable law decls program text named).few, length-map program.rules (λ (r : WrittenRule). r.rule))

-- problems

module _ (decls : List Decl) (checked : CheckedFile) (c : IsChecked decls checked) (model : Model) (left right : Process) (written : expanded checked.program ≡ sides left right) where
  pub lawful : ProgramsAreWellFormed → SidesAreLawful → IsLawful (checked_problem checked model left right)
  lawful formed sided =
      let both = sided checked.program left right (formed decls checked.program c.named) written in
      record { theory = c.lawful; left = both.0; right = both.1 }

  pub high : BindersAreHigh → HasHighBinders (checked_problem checked model left right)
  high binders = let both = binders checked.program left right written in record { left = both.0; right = both.1 }

  pub meant : (problem : Problem) → problem ≡ checked_problem checked model left right → IsProblemOf decls problem
  meant problem e = subst (IsProblemOf decls) (sym e) (record {
    program = checked.program;
    named = c.named;
    signature = refl;
    theory = c.theory;
    accepted = c.lawful.accepted;
    written = written;
  })
