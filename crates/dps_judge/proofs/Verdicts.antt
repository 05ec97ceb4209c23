-- No text has two verdicts, and each has one.
use Rattle.std.proofs.Common.{◌≡◌, ◌⊎◌, ℕ, List, Option, Some, None, refl, sym, ap, ◌∙◌, inl, inr}
use Rattle.dps_lex.specs.declared.vocabulary.Place.{Place}
use Rattle.dps_process.specs.Models.{Model}
use Rattle.dps_process.specs.Problem.{Problem}
use Rattle.dps_meaning.specs.Causes.{cause_text}
use Rattle.dps_meaning.specs.Meaning.{Means}
use Rattle.dps_meaning.specs.Laws.{NoTextHasTwoFaults, NoTextHasTwoTheoryFaults, NoTextHasTwoFiles, NoTextHasFaultAndTheory, NoTextHasFaultAndMeaning, IsMeant, EachTextHasFaultOrMeaning}
use Rattle.dps_judge.specs.Meaning.{MeansJudged}
use Rattle.dps_judge.specs.Judgement.{IsUnbuilt, IsRefused, meaningless, unbuilt, not_built}
use Rattle.dps_judge.specs.LawsOfTexts.{NoTextIsRefusedTwice, NoTheoryIsRefusedTwice, NoTextIsRefusedAndJudged, NoTextHasTheoryAndNone, EachTextIsRefusedOrJudged}
use Rattle.dps_judge.specs.Unbuilt.{first_unbuilt}

some_or_none : (place : Place) (o x : Option Place) → o ≡ Some place → x ≡ None → o ≡ x → ⊥
some_or_none place o x e f g = cc

pub theory_or_none : NoTextHasFaultAndTheory → NoTextHasTheoryAndNone
theory_or_none law bytes place text rules h m = law bytes place h.cause rules h.fault m

pub refused_or_judged : NoTextHasFaultAndMeaning → NoTextHasTwoFiles → NoTextIsRefusedAndJudged
refused_or_judged law one model bytes place text problem (meaningless h) m = law bytes place h.cause problem h.fault m.means
refused_or_judged law one model bytes place text problem (unbuilt u e) m =
    some_or_none place (first_unbuilt u.decls) (first_unbuilt m.built.decls) u.first m.built.built (ap first_unbuilt (one bytes u.decls m.built.decls u.text m.built.text))

some_same : (p q : Place) (o x : Option Place) → o ≡ Some p → x ≡ Some q → o ≡ x → p ≡ q
some_same p q o x e f g = let h : Some p ≡ Some q = sym e ∙ (g ∙ f) in cc

unbuilt_means : (bytes : List ℕ) (place : Place) (u : IsUnbuilt bytes place) → Means bytes u.problem
unbuilt_means bytes place u = record { decls = u.decls; text = u.text; problem_of = u.means }

pub refused_once : NoTextHasTwoFaults → NoTextHasFaultAndMeaning → NoTextHasTwoFiles → NoTextIsRefusedTwice
refused_once faults law one bytes p q a b (meaningless h) (meaningless k) =
    let e = faults bytes p q h.cause k.cause h.fault k.fault in
    (e.0, h.printed ∙ (ap cause_text e.1 ∙ sym k.printed))
refused_once faults law one bytes p q a b (meaningless h) (unbuilt u e) = absurd (law bytes p h.cause u.problem h.fault (unbuilt_means bytes q u))
refused_once faults law one bytes p q a b (unbuilt u e) (meaningless k) = absurd (law bytes q k.cause u.problem k.fault (unbuilt_means bytes p u))
refused_once faults law one bytes p q a b (unbuilt u e) (unbuilt v f) =
    (some_same p q (first_unbuilt u.decls) (first_unbuilt v.decls) u.first v.first (ap first_unbuilt (one bytes u.decls v.decls u.text v.text)), e ∙ sym f)

pub theory_refused_once : NoTextHasTwoTheoryFaults → NoTheoryIsRefusedTwice
theory_refused_once faults bytes p q a b h k =
    let e = faults bytes p q h.cause k.cause h.fault k.fault in
    (e.0, h.printed ∙ (ap cause_text e.1 ∙ sym k.printed))

module _ (model : Model) (bytes : List ℕ) where
  abbrev IsDecided : Type 0
  IsDecided = ((place : Place) × ((text : List ℕ) × IsRefused bytes place text)) ⊎ ((problem : Problem) × MeansJudged model bytes problem)

  decided_meant : (m : IsMeant bytes model) → (o : Option Place) → first_unbuilt m.means.decls ≡ o → IsDecided
  decided_meant m (Some place) e = inl (place, (not_built, unbuilt (record { decls = m.means.decls; text = m.means.text; problem = m.problem; means = m.means.problem_of; first = e }) refl))
  decided_meant m None e = inr (m.problem, record { means = m.means; in_model = m.in_model; built = record { decls = m.means.decls; text = m.means.text; built = e } })

pub decided : EachTextHasFaultOrMeaning → EachTextIsRefusedOrJudged
decided each model bytes short =
    elim (each bytes short) [
      | inl (place, (cause, fault)) ↦ inl (place, (cause_text cause, meaningless (record { cause = cause; fault = fault; printed = refl })))
      | inr meant ↦ decided_meant model bytes (meant model) (first_unbuilt (meant model).means.decls) refl
    ]
