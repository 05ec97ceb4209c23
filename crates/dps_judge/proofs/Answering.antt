-- From the calls to the verdict of a text.
use Rattle.std.proofs.Common.{◌≡◌, ◌<◌, ◌≤◌, ℕ, ◌+◌, List, [], ◌∷◌, length, Some, None, Result, Ok, Err, IfOk, refl, sym, subst}
use Rattle.std.specs.List.{All}
use Rattle.std.proofs.lemmas.List.Elements.{All-nil, All-cons}
use Rattle.std.proofs.lemmas.Option.{slice_get_within}
use Rattle.dps_branch.specs.declared.Side.{Side}
use Rattle.dps_lex.specs.declared.vocabulary.Place.{Place}
use Rattle.dps_lex.specs.declared.vocabulary.Fault.{Fault}
use Rattle.dps_lex.specs.Spelling.{fault_words}
use Rattle.dps_signature.specs.Signature.{Signature}
use Rattle.dps_syntax.specs.declared.tree.Decl.{Decl}
use Rattle.dps_syntax.specs.declared.tree.File.{File}
use Rattle.dps_syntax.specs.Files.{IsFileOfText, IsFirstFault}
use Rattle.dps_process.specs.Models.{Model}
use Rattle.dps_process.specs.Problem.{Problem, side_of}
use Rattle.dps_process.specs.Lawful.{AreLawfulLabels}
use Rattle.dps_process.specs.Laws.{TracesHaveLawfulLabels}
use Rattle.dps_tree.specs.Words.{outputs_from, word_of}
use Rattle.dps_tree.specs.Answer.{IsLeastAttack}
use Rattle.dps_meaning.specs.Causes.{Cause, reading, cause_text}
use Rattle.dps_meaning.specs.Meaning.{AreOfText, IsProblemOf}
use Rattle.dps_meaning.specs.Faults.{IsTheoryFault, IsFaultOf, unread, declared}
use Rattle.dps_meaning.specs.Laws.{ReadFilesAreDeclared}
use Rattle.dps_meaning.specs.Refusals.{IsChecked}
use Rattle.dps_meaning.specs.declared.theory.CheckedFile.{CheckedFile}
use Rattle.dps_theory.specs.Theory.{IsAccepted}
use Rattle.dps_judge.specs.declared.verdict.Verdict.{Verdict}
use Rattle.dps_judge.specs.declared.verdict.Verdict.TheVariants.{Equivalent, NotEquivalent, Refused}
use Rattle.dps_judge.specs.declared.verdict.TheoryVerdict.{TheoryVerdict}
use Rattle.dps_judge.specs.declared.verdict.TheoryVerdict.TheVariants as theory
use Rattle.dps_judge.specs.Meaning.{MeansJudged}
use Rattle.dps_judge.specs.Judgement.{HasNoTheory, IsRefused, meaningless, unbuilt, not_built, IsJudged, JudgesFile, JudgesTheory, IsTheoryJudged, IsAnswered, Refuses, RefusesTheory}
use Rattle.dps_judge.specs.Unbuilt.{first_unbuilt}

pub of_text : ReadFilesAreDeclared → (bytes : List ℕ) (file : File) → length bytes ≤ 1048576 → IsFileOfText bytes file → AreOfText file.declarations.items
of_text law bytes file short t = record { bytes = bytes; short = short; text = law bytes file t }

pub in_ok : {T E : Type 0} (r : Result T E) (P Q : T → Type 0) → ((x : T) → P x → Q x) → IfOk r P → IfOk r Q
in_ok (Ok x) P Q f h = f x h
in_ok (Err e) P Q f h = h

-- refusals

refused_judged : (model : Model) (bytes : List ℕ) (place : Place) (text : List ℕ) → IsRefused bytes place text → (v : Verdict) → Refuses place text v → IsJudged model bytes v
refused_judged model bytes place text r Equivalent h = absurd h
refused_judged model bytes place text r (NotEquivalent trace) h = absurd h
refused_judged model bytes place text r (Refused found why) h = subst (λ c. IsRefused bytes found c) (sym h.1) (subst (λ p. IsRefused bytes p text) (sym h.0) r)

theory_refused : (bytes : List ℕ) (place : Place) (text : List ℕ) → HasNoTheory bytes place text → (v : TheoryVerdict) → RefusesTheory place text v → IsTheoryJudged bytes v
theory_refused bytes place text n (theory.Accepted rules) h = absurd h
theory_refused bytes place text n (theory.Refused found why) h = subst (λ c. HasNoTheory bytes found c) (sym h.1) (subst (λ p. HasNoTheory bytes p text) (sym h.0) n)

abbrev pub fault_place : Fault → Place
fault_place fault = record { line = fault.line; column = fault.column }

pub unread_judged : (model : Model) (bytes : List ℕ) (fault : Fault) → IsFirstFault bytes fault → (v : Verdict) → Refuses (fault_place fault) (fault_words fault.kind) v → IsJudged model bytes v
unread_judged model bytes fault first v h =
    refused_judged model bytes (fault_place fault) (fault_words fault.kind) (meaningless (record { cause = reading fault.kind; fault = unread fault first refl refl; printed = refl })) v h

pub unread_theory : (bytes : List ℕ) (fault : Fault) → IsFirstFault bytes fault → (v : TheoryVerdict) → RefusesTheory (fault_place fault) (fault_words fault.kind) v → IsTheoryJudged bytes v
unread_theory bytes fault first v h =
    theory_refused bytes (fault_place fault) (fault_words fault.kind) (record { cause = reading fault.kind; fault = unread fault first refl refl; printed = refl }) v h

pub faulty_judged : (model : Model) (decls : List Decl) (place : Place) (cause : Cause) → IsFaultOf decls place cause → (v : Verdict) → Refuses place (cause_text cause) v → JudgesFile model decls v
faulty_judged model decls place cause f v h bytes d =
    refused_judged model bytes place (cause_text cause) (meaningless (record { cause = cause; fault = declared decls d f; printed = refl })) v h

pub faulty_theory : (decls : List Decl) (place : Place) (cause : Cause) → IsTheoryFault decls place cause → (v : TheoryVerdict) → RefusesTheory place (cause_text cause) v → JudgesTheory decls v
faulty_theory decls place cause f v h bytes d =
    theory_refused bytes place (cause_text cause) (record { cause = cause; fault = declared decls d f; printed = refl }) v h

pub unbuilt_judged :
    (decls : List Decl) (problem : Problem) (place : Place) → IsProblemOf decls problem → first_unbuilt decls ≡ Some place → (v : Verdict)
    → Refuses place not_built v → JudgesFile problem.model decls v
unbuilt_judged decls problem place means first v h bytes d =
    refused_judged problem.model bytes place not_built (unbuilt (record { decls = decls; text = d; problem = problem; means = means; first = first }) refl) v h

-- theories

pub means_theory : (decls : List Decl) (checked : CheckedFile) → IsChecked decls checked → (count : ℕ) → count ≡ length checked.program.rules → JudgesTheory decls (theory.Accepted count)
means_theory decls checked c count e bytes d = record {
  program = checked.program;
  says = record { decls = decls; text = d; named = c.named };
  accepted = subst IsAccepted c.theory c.lawful.accepted;
  counted = e;
}

-- a problem that is judged

pub answered_judged : (decls : List Decl) (problem : Problem) → IsProblemOf decls problem → first_unbuilt decls ≡ None → (v : Verdict) → IsAnswered problem v → JudgesFile problem.model decls v
answered_judged decls problem p built v a bytes d = by_verdict v a
  where
    judged : MeansJudged problem.model bytes problem
    judged = record {
      means = record { decls = decls; text = d; problem_of = p };
      in_model = refl;
      built = record { decls = decls; text = d; built = built };
    }

    by_verdict : (v : Verdict) → IsAnswered problem v → IsJudged problem.model bytes v
    by_verdict Equivalent a = record { problem = problem; means = judged; equivalent = a }
    by_verdict (NotEquivalent trace) a = record { problem = problem; means = judged; attack = a }
    by_verdict (Refused place cause) a = absurd a

-- the channels of an attack are names

channels_named : (signature : Signature) (m j n : ℕ) (channels : List ℕ) → AreLawfulLabels signature m (outputs_from j channels) n → All (λ c. c < length signature.names) channels
channels_named signature m j n [] h = All-nil (λ c. c < length signature.names)
channels_named signature m j n (c ∷ cs) h =
    All-cons (λ c. c < length signature.names) c cs (slice_get_within signature.names c _ h.0.1) (channels_named signature (m + 1) (j + 1) n cs h.2)

pub attack_named : TracesHaveLawfulLabels → (problem : Problem) (side : Side) (channels : List ℕ) → IsLeastAttack problem side channels → All (λ c. c < length problem.signature.names) channels
attack_named labels problem side channels a =
    channels_named problem.signature 0 1 (length a.attack.frame) channels
    (labels problem.model problem.signature problem.theory (side_of problem side) (word_of channels) a.attack.frame a.attack.trace)
