-- What a text comes to.
use Rattle.std.specs.Prelude.{◌≡◌, ℕ, List, codes, string_bytes, Some}
use Rattle.dps_branch.specs.declared.Side.{Side}
use Rattle.dps_lex.specs.declared.vocabulary.Place.{Place}
use Rattle.dps_syntax.specs.declared.tree.Decl.{Decl}
use Rattle.dps_process.specs.Models.{Model}
use Rattle.dps_process.specs.Problem.{Problem}
use Rattle.dps_process.specs.Traces.{IsEquivalent}
use Rattle.dps_tree.specs.Words.{word_of}
use Rattle.dps_tree.specs.Answer.{IsLeastAttack}
use Rattle.dps_meaning.specs.Causes.{Cause, cause_text}
use Rattle.dps_meaning.specs.Meaning.{HasDeclarations, IsProblemOf, MeansTheory}
use Rattle.dps_meaning.specs.Faults.{HasTheoryFault, HasFault}
use Rattle.dps_judge.specs.declared.verdict.Verdict.{Verdict}
use Rattle.dps_judge.specs.declared.verdict.Verdict.TheVariants.{Equivalent, NotEquivalent, Refused}
use Rattle.dps_judge.specs.declared.verdict.TheoryVerdict.{TheoryVerdict}
use Rattle.dps_judge.specs.declared.verdict.TheoryVerdict.TheVariants as theory
use Rattle.dps_judge.specs.Meaning.{MeansJudged, MeansEquivalent}
use Rattle.dps_judge.specs.Traces.{trace_text}
use Rattle.dps_judge.specs.Unbuilt.{first_unbuilt}

-- The text has no theory: its first fault up to its rules stands at this place, and this is printed for its cause.
pub record HasNoTheory (bytes : List ℕ) (place : Place) (text : List ℕ) : Type 0 where
  pub cause : Cause
  pub fault : HasTheoryFault bytes place cause
  pub printed : text ≡ cause_text cause

-- The text means no problem: its first fault stands at this place, and this is printed for its cause.
pub record HasNoMeaning (bytes : List ℕ) (place : Place) (text : List ℕ) : Type 0 where
  pub cause : Cause
  pub fault : HasFault bytes place cause
  pub printed : text ≡ cause_text cause

abbrev pub not_built : List ℕ
not_built = codes "not built"

-- The text means a problem, and this is where it first uses what is not judged yet.
pub record IsUnbuilt (bytes : List ℕ) (place : Place) : Type 0 where
  pub decls : List Decl
  pub text : HasDeclarations bytes decls
  pub problem : Problem
  pub means : IsProblemOf decls problem
  pub first : first_unbuilt decls ≡ Some place

-- The text is refused at this place, and this is printed for the cause: for its first fault; or, where it has none, for the
-- first use of what is not judged yet.
pub data IsRefused (bytes : List ℕ) (place : Place) (text : List ℕ) : Type 0 where
  meaningless : HasNoMeaning bytes place text → IsRefused bytes place text
  unbuilt : IsUnbuilt bytes place → text ≡ not_built → IsRefused bytes place text

-- The text is that of the least attack on the problem.
pub record IsAttackText (problem : Problem) (text : List ℕ) : Type 0 where
  pub side : Side
  pub channels : List ℕ
  pub attack : IsLeastAttack problem side channels
  pub same : text ≡ trace_text problem.signature problem.model side (word_of channels)

-- The text means a problem in this model that has an attack, and this is the text of the least one.
pub record IsAttacked (model : Model) (bytes : List ℕ) (trace : List ℕ) : Type 0 where
  pub problem : Problem
  pub means : MeansJudged model bytes problem
  pub attack : IsAttackText problem trace

-- What is answered of a text, in a model.
abbrev pub IsJudged : Model → List ℕ → Verdict → Type 0
IsJudged model bytes Equivalent = MeansEquivalent model bytes
IsJudged model bytes (NotEquivalent trace) = IsAttacked model bytes (string_bytes trace)
IsJudged model bytes (Refused place cause) = IsRefused bytes place (string_bytes cause)

-- the same of a file: of each text with these declarations
abbrev pub JudgesFile : Model → List Decl → Verdict → Type 0
JudgesFile model decls verdict = (bytes : List ℕ) → HasDeclarations bytes decls → IsJudged model bytes verdict

-- What is answered of the theory of a text.
abbrev pub IsTheoryJudged : List ℕ → TheoryVerdict → Type 0
IsTheoryJudged bytes (theory.Accepted rules) = MeansTheory bytes rules
IsTheoryJudged bytes (theory.Refused place cause) = HasNoTheory bytes place (string_bytes cause)

abbrev pub JudgesTheory : List Decl → TheoryVerdict → Type 0
JudgesTheory decls verdict = (bytes : List ℕ) → HasDeclarations bytes decls → IsTheoryJudged bytes verdict

-- What is answered of a problem: that it is equivalent, or the text of its least attack.
abbrev pub IsAnswered : Problem → Verdict → Type 0
IsAnswered problem Equivalent = IsEquivalent problem
IsAnswered problem (NotEquivalent trace) = IsAttackText problem (string_bytes trace)
IsAnswered problem (Refused place cause) = ⊥

-- what is refused: a place, and what is printed for the cause
abbrev pub Refuses : Place → List ℕ → Verdict → Type 0
Refuses place cause Equivalent = ⊥
Refuses place cause (NotEquivalent trace) = ⊥
Refuses place cause (Refused found why) = (found ≡ place) × (string_bytes why ≡ cause)

abbrev pub RefusesTheory : Place → List ℕ → TheoryVerdict → Type 0
RefusesTheory place cause (theory.Accepted rules) = ⊥
RefusesTheory place cause (theory.Refused found why) = (found ≡ place) × (string_bytes why ≡ cause)
