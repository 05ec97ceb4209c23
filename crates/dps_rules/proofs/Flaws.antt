-- Faults of rule lists, and flaws of programs.
use Rattle.std.proofs.Common.{◌≡◌, ℕ, zero, suc, ◌<◌, ◌≤◌, List, [], ◌∷◌, length, map, Some, refl, subst, arith}
use Rattle.std.specs.Prelude.{slice_get}
use Rattle.std.proofs.lemmas.List.{length-map}
use Rattle.std.proofs.lemmas.Option.{slice_get_within, none-some}
use Rattle.dps_lex.specs.declared.vocabulary.Place.{Place}
use Rattle.dps_terms.specs.Tree.{Tree}
use Rattle.dps_signature.specs.Signature.{shapes}
use Rattle.dps_theory.specs.Theory.{Rule}
use Rattle.dps_theory.specs.Projections.{projections}
use Rattle.dps_theory.specs.Checking.{numbered_rule, HaveFault, by_itself, by_overlap, IsFirstFault, IsFirstOverlap}
use Rattle.dps_theory.specs.declared.form.FormFault.{FormFault}
use Rattle.dps_theory.specs.Laws.{FaultyRulesAreNotAccepted}
use Rattle.dps_names.specs.Program.{WrittenRule, Program}
use Rattle.dps_rules.specs.Bindings.{bindings_text}
use Rattle.dps_rules.specs.Laws.{FlawedProgramsAreNotAccepted, FaultyProgramsAreFlawed}
use Rattle.dps_rules.specs.Rules.{rules_of, written_rule, flawed_number, Flaw, form, overlap, IsFirstFlaw, IsFlawed}

-- a flaw is a fault of the rule list
faulty : (program : Program) (flaw : Flaw) → IsFirstFlaw program flaw → HaveFault (shapes program.signature) (rules_of program)
faulty program (form n fault) f = by_itself n fault f
faulty program (overlap m n bindings) f = by_overlap m n f.unifier f.overlaps

pub flawed_not_accepted : FaultyRulesAreNotAccepted → FlawedProgramsAreNotAccepted
flawed_not_accepted law = λ program place flaw f. law (shapes program.signature) (projections program.signature) (rules_of program) (faulty program flaw f.first)

-- a rule with a number is there
pub record IsNumber (n : ℕ) (count : ℕ) : Type 0 where
  pub above : 0 < n
  pub within : n ≤ count

numbered_there : (rules : List Rule) (n : ℕ) (r : Rule) → numbered_rule rules n ≡ Some r → IsNumber n (length rules)
numbered_there rules zero r e = cc
numbered_there rules (suc i) r e = let k = slice_get_within rules i r e in record { above = omega arith; within = omega arith }

number_in : (program : Program) (n : ℕ) (r : Rule) → numbered_rule (rules_of program) n ≡ Some r → IsNumber n (length program.rules)
number_in program n r e =
    let k = numbered_there (rules_of program) n r e in
    let same = length-map program.rules (λ (r : WrittenRule). r.rule) in
    record { above = k.above; within = omega (arith, k.within, same) }

pub fault_number : (program : Program) (n : ℕ) (fault : FormFault) → IsFirstFault (shapes program.signature) (rules_of program) n fault → IsNumber n (length program.rules)
fault_number program n fault f = number_in program n f.rule f.is

pub first_number : (program : Program) (m n : ℕ) (u : List (ℕ × Tree)) → IsFirstOverlap (shapes program.signature) (rules_of program) m n u → IsNumber m (length program.rules)
first_number program m n u f = number_in program m f.earlier f.is_earlier

pub second_number : (program : Program) (m n : ℕ) (u : List (ℕ × Tree)) → IsFirstOverlap (shapes program.signature) (rules_of program) m n u → IsNumber n (length program.rules)
second_number program m n u f = number_in program n f.rule f.is

-- the written rule of a number

pub record IsWrittenRule (program : Program) (n : ℕ) : Type 0 where
  pub rule : WrittenRule
  pub is : written_rule program.rules n ≡ Some rule

written_there : (rules : List WrittenRule) (i : ℕ) (r : Rule) → slice_get (map (λ (w : WrittenRule). w.rule) rules) i ≡ Some r → (w : WrittenRule) × (slice_get rules i ≡ Some w)
written_there [] i r e = absurd (none-some r e)
written_there (w ∷ rules) zero r e = (w, refl)
written_there (w ∷ rules) (suc i) r e = written_there rules i r e

written_at : (program : Program) (n : ℕ) (r : Rule) → numbered_rule (rules_of program) n ≡ Some r → IsWrittenRule program n
written_at program zero r e = cc
written_at program (suc i) r e = let w = written_there program.rules i r e in record { rule = w.0; is = w.1 }

abbrev HasFlaw : Program → Type 0
HasFlaw program = (place : Place) × ((flaw : Flaw) × IsFlawed program place flaw)

flawed_at : (program : Program) (flaw : Flaw) (n : ℕ) (r : Rule) → numbered_rule (rules_of program) n ≡ Some r → n ≡ flawed_number flaw → IsFirstFlaw program flaw → HasFlaw program
flawed_at program flaw n r e same f =
    let w = written_at program n r e in
    (w.rule.place, (flaw, record { first = f; rule = w.rule; is = subst (λ k. written_rule program.rules k ≡ Some w.rule) same w.is; stands = refl }))

module _ (program : Program) where
  flaw_alone : (n : ℕ) (fault : FormFault) → IsFirstFault (shapes program.signature) (rules_of program) n fault → HasFlaw program
  flaw_alone n fault f = flawed_at program (form n fault) n f.rule f.is refl f

  flaw_of_two : (m n : ℕ) (u : List (ℕ × Tree)) → IsFirstOverlap (shapes program.signature) (rules_of program) m n u → HasFlaw program
  flaw_of_two m n u f =
      let v = written_at program m f.earlier f.is_earlier in
      let w = written_at program n f.rule f.is in
      let bindings = bindings_text program.signature v.rule w.rule u in
      flawed_at program (overlap m n bindings) n f.rule f.is refl (record { unifier = u; overlaps = f; earlier = v.rule; rule = w.rule; is_earlier = v.is; is = w.is; same = refl })

pub faulty_are_flawed : FaultyProgramsAreFlawed
faulty_are_flawed = λ program fault. elim fault [ by_itself n fault f ↦ flaw_alone program n fault f | by_overlap m n u f ↦ flaw_of_two program m n u f ]
