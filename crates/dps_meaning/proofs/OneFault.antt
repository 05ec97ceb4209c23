-- A text has at most one first fault.
use Rattle.std.proofs.Common.{◌≡◌, ℕ, List, refl, sym, ap, subst, ◌∙◌}
use Rattle.dps_lex.specs.declared.vocabulary.Place.{Place}
use Rattle.dps_lex.specs.declared.vocabulary.Fault.{Fault}
use Rattle.dps_syntax.specs.declared.tree.Decl.{Decl}
use Rattle.dps_syntax.specs.Files.{trees_of}
use Rattle.dps_syntax.specs.LawsOfFiles.{NoTextIsFileAndHasFault, NoTextHasTwoFaults as NoTextIsMisreadTwice}
use Rattle.dps_theory.specs.Theory.{IsAccepted}
use Rattle.dps_scopes.specs.declared.fault.NameFault.{NameFault}
use Rattle.dps_scopes.specs.Outcome.{faulty}
use Rattle.dps_names.specs.Declarations.{Known, names_of}
use Rattle.dps_elab.specs.declared.fault.ExpansionCause.{ExpansionCause}
use Rattle.dps_elab.specs.Meaning.{Expanded, expanded, refused}
use Rattle.dps_rules.specs.Rules.{IsFlawed, theory_of}
use Rattle.dps_rules.specs.Laws.{FlawedProgramsAreNotAccepted}
use Rattle.dps_rules.specs.LawsOfFlaws.{NoProgramHasTwoFlaws}
use Rattle.dps_meaning.specs.Causes.{Cause, reading, names, rules, sides}
use Rattle.dps_meaning.specs.Faults.{IsTheoryFault, misnamed, flawed, IsFaultOf, untheoried, unwritten, IsFirst, unread, declared}
use Rattle.dps_meaning.specs.Laws.{NoTextHasTwoFiles, NoTextHasTwoFaults, NoTextHasTwoTheoryFaults}
use Rattle.dps_meaning.proofs.OneMeaning.{same_program, no_theory_fault, not_both}

record AreSame (place other : Place) (cause second : Cause) : Type 0 where
  pub at : place ≡ other
  pub why : cause ≡ second

same_fault : (f g : NameFault) (o : Known) → o ≡ faulty f → o ≡ faulty g → f ≡ g
same_fault f g o d e = let h : faulty f ≡ faulty g = sym d ∙ e in cc

record AreRefusedSame (place other : Place) (why second : ExpansionCause) : Type 0 where
  pub at : place ≡ other
  pub cause : why ≡ second

same_refusal : (p q : Place) (a b : ExpansionCause) (o : Expanded) → o ≡ refused p a → o ≡ refused q b → AreRefusedSame p q a b
same_refusal p q a b o d e =
    let h : refused p a ≡ refused q b = sym d ∙ e in
    let at : p ≡ q = cc in
    let cause : a ≡ b = cc in
    record { at = at; cause = cause }

module _ (flaws : NoProgramHasTwoFlaws) (decls : List Decl) where
  one_theory_fault : (p q : Place) (a b : Cause) → IsTheoryFault decls p a → IsTheoryFault decls q b → AreSame p q a b
  one_theory_fault p q a b (misnamed f d e c) (misnamed g k l m) =
      let same = same_fault f g (names_of decls) d k in
      record { at = e ∙ (ap (λ x. x.place) same ∙ sym l); why = c ∙ (ap (λ x. names x.cause) same ∙ sym m) }
  one_theory_fault p q a b (misnamed f d e c) (flawed program flaw named k m) = absurd (not_both program f (names_of decls) (names_of decls) d named refl)
  one_theory_fault p q a b (flawed program flaw named d c) (misnamed g k l m) = absurd (not_both program g (names_of decls) (names_of decls) k named refl)
  one_theory_fault p q a b (flawed program flaw named d c) (flawed other second said k m) =
      let e = flaws program p q flaw second d (subst (λ x. IsFlawed x q second) (same_program decls program named other said) k) in
      record { at = e.0; why = c ∙ (ap rules e.1 ∙ sym m) }

  module _ (accepted : FlawedProgramsAreNotAccepted) where
    one_fault : (p q : Place) (a b : Cause) → IsFaultOf decls p a → IsFaultOf decls q b → AreSame p q a b
    one_fault p q a b (untheoried f) (untheoried g) = one_theory_fault p q a b f g
    one_fault p q a b (untheoried f) (unwritten program why named k e c) = absurd (no_theory_fault accepted decls program named k p a f)
    one_fault p q a b (unwritten program why named k e c) (untheoried g) = absurd (no_theory_fault accepted decls program named k q b g)
    one_fault p q a b (unwritten program why named k e c) (unwritten other second said l f d) =
        let same = same_program decls program named other said in
        let h = same_refusal p q why second (expanded program) e (ap expanded (sym same) ∙ f) in
        record { at = h.at; why = c ∙ (ap sides h.cause ∙ sym d) }

-- the same of texts, for each kind of fault of which declarations have at most one
module _ (files : NoTextHasTwoFiles) (misread : NoTextIsMisreadTwice) (reads : NoTextIsFileAndHasFault) (IsOf : List Decl → Place → Cause → Type 0)
    (one : (decls : List Decl) (p q : Place) (a b : Cause) → IsOf decls p a → IsOf decls q b → AreSame p q a b) (bytes : List ℕ) where
  one_of_text : (p q : Place) (a b : Cause) → IsFirst IsOf bytes p a → IsFirst IsOf bytes q b → (p ≡ q) × (a ≡ b)
  one_of_text p q a b (unread f d e c) (unread g k l m) =
      let same : f ≡ g = misread bytes f g d k in
      let place : (x : Fault) → Place = λ x. record { line = x.line; column = x.column } in
      (e ∙ (ap place same ∙ sym l), c ∙ (ap (λ x. reading x.kind) same ∙ sym m))
  one_of_text p q a b (unread f d e c) (declared decls t g) = absurd (reads bytes (trees_of decls) f t.tree d)
  one_of_text p q a b (declared decls t f) (unread g k l m) = absurd (reads bytes (trees_of decls) g t.tree k)
  one_of_text p q a b (declared decls t f) (declared others u g) =
      let same = one decls p q a b f (subst (λ ds. IsOf ds q b) (files bytes others decls u t) g) in
      (same.at, same.why)

pub one_fault_of_text : NoTextHasTwoFiles → NoTextIsMisreadTwice → NoTextIsFileAndHasFault → FlawedProgramsAreNotAccepted → NoProgramHasTwoFlaws → NoTextHasTwoFaults
one_fault_of_text files misread reads accepted flaws bytes p q a b f g = one_of_text files misread reads IsFaultOf (λ decls. one_fault flaws decls accepted) bytes p q a b f g

pub one_theory_fault_of_text : NoTextHasTwoFiles → NoTextIsMisreadTwice → NoTextIsFileAndHasFault → NoProgramHasTwoFlaws → NoTextHasTwoTheoryFaults
one_theory_fault_of_text files misread reads flaws bytes p q a b f g = one_of_text files misread reads IsTheoryFault (λ decls. one_theory_fault flaws decls) bytes p q a b f g
