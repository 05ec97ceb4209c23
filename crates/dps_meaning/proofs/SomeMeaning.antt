-- Each text means something, or has a fault.
use Rattle.std.proofs.Common.{◌≡◌, ◌⊎◌, ℕ, ◌≤◌, length, List, refl, sym, subst, inl, inr}
use Rattle.dps_lex.specs.declared.vocabulary.Place.{Place}
use Rattle.dps_syntax.specs.declared.tree.Decl.{Decl}
use Rattle.dps_syntax.specs.LawsOfFiles.{IsTreeOfText, EachTextIsFileOrHasFault, TreesAreDeclared}
use Rattle.dps_signature.specs.Signature.{shapes}
use Rattle.dps_theory.specs.Theory.{IsAccepted}
use Rattle.dps_theory.specs.Laws.{AcceptedRulesJoinProjections}
use Rattle.dps_theory.specs.RulesDecided.{RulesAreDecided}
use Rattle.dps_process.specs.Models.{Model}
use Rattle.dps_scopes.specs.Outcome.{done, faulty}
use Rattle.dps_names.specs.Program.{Program}
use Rattle.dps_names.specs.Answers.{IsProgram}
use Rattle.dps_names.specs.Declarations.{Known, names_of}
use Rattle.dps_names.specs.Laws.{RulesAreCheckable}
use Rattle.dps_elab.specs.Meaning.{Expanded, expanded, sides, refused}
use Rattle.dps_rules.specs.Rules.{rules_of, theory_of}
use Rattle.dps_rules.specs.Laws.{FaultyProgramsAreFlawed}
use Rattle.dps_meaning.specs.Causes.{Cause, reading, names, rules, sides as of_sides}
use Rattle.dps_meaning.specs.Meaning.{HasDeclarations}
use Rattle.dps_meaning.specs.Faults.{IsFaultOf, misnamed, flawed, untheoried, unwritten, HasFault, unread, declared}
use Rattle.dps_meaning.specs.Laws.{IsMeant, EachTextHasFaultOrMeaning}

abbrev IsDecided : List ℕ → Type 0
IsDecided bytes = ((place : Place) × ((cause : Cause) × HasFault bytes place cause)) ⊎ ((model : Model) → IsMeant bytes model)

module _ (bytes : List ℕ) (decls : List Decl) (text : HasDeclarations bytes decls) where
  faulty_text : (place : Place) (cause : Cause) → IsFaultOf decls place cause → IsDecided bytes
  faulty_text place cause h = inl (place, (cause, declared decls text h))

  decided_written : (program : Program) → IsProgram decls program → IsAccepted (theory_of program) → (o : Expanded) → expanded program ≡ o → IsDecided bytes
  decided_written program named a (refused place why) e = faulty_text place (of_sides why) (unwritten program why named a e refl)
  decided_written program named a (sides l r) e = inr (λ model. record {
    problem = record { signature = program.signature; theory = theory_of program; model = model; left = l; right = r };
    means = record { decls = decls; text = text; problem_of = record { program = program; named = named; signature = refl; theory = refl; accepted = a; written = e } };
    in_model = refl;
  })

  -- the rules of a program are accepted, or have a first flaw
  module _ (checkable : RulesAreCheckable) (join : AcceptedRulesJoinProjections) (flaws : FaultyProgramsAreFlawed) (short : length bytes ≤ 1048576) (decides : RulesAreDecided) where
    accepted_own : (program : Program) → IsProgram decls program → IsAccepted (record { shapes = shapes program.signature; rules = rules_of program }) → IsDecided bytes
    accepted_own program named own =
        decided_written program named (join program.signature (rules_of program) (checkable bytes decls program short text.tree named) own).accepted (expanded program) refl

    decided_ruled : (program : Program) → IsProgram decls program → IsDecided bytes
    decided_ruled program named =
        elim (decides (shapes program.signature) (rules_of program)) [
          | inl own ↦ accepted_own program named own
          | inr fault ↦ let f = flaws program fault in faulty_text f.0 (rules f.1.0) (untheoried (flawed program f.1.0 named f.1.1 refl))
        ]

    decided_named : (o : Known) → names_of decls ≡ o → IsDecided bytes
    decided_named (faulty fault) e = faulty_text fault.place (names fault.cause) (untheoried (misnamed fault e refl refl))
    decided_named (done u program) e = decided_ruled program e

pub decided : EachTextIsFileOrHasFault → TreesAreDeclared → RulesAreCheckable → AcceptedRulesJoinProjections → FaultyProgramsAreFlawed → RulesAreDecided → EachTextHasFaultOrMeaning
decided each made checkable join flaws decides = λ bytes short.
    elim (each bytes) [
      | inl (trees, t) ↦
          let m = made bytes trees t in
          decided_named bytes m.decls (record { tree = subst (IsTreeOfText bytes) (sym m.same) t; keywords = m.keywords }) checkable join flaws short decides (names_of m.decls) refl
      | inr (fault, first) ↦ inl (record { line = fault.line; column = fault.column }, (reading fault.kind, unread fault first refl refl))
    ]
