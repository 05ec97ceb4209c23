-- What a reader may expect of the verdicts of texts. Each of these statements is the contract of a function of the crate.
use Rattle.std.specs.Prelude.{◌≡◌, ◌⊎◌, ◌≤◌, ℕ, List, length, None}
use Rattle.dps_lex.specs.declared.vocabulary.Place.{Place}
use Rattle.dps_process.specs.Models.{Model}
use Rattle.dps_process.specs.Problem.{Problem, IsLawful}
use Rattle.dps_tree.specs.Plain.{IsPlain}
use Rattle.dps_syntax.specs.declared.tree.Decl.{Decl}
use Rattle.dps_meaning.specs.Meaning.{HasDeclarations, IsProblemOf, MeansTheory}
use Rattle.dps_judge.specs.Meaning.{MeansJudged, MeansEquivalent}
use Rattle.dps_judge.specs.Judgement.{HasNoTheory, IsRefused, IsAttacked}
use Rattle.dps_judge.specs.Unbuilt.{first_unbuilt}

-- A text that uses nothing that is not judged yet means a problem of outputs on public channels, without a rule.
abbrev pub BuiltTextsArePlain : Type 0
BuiltTextsArePlain =
    (bytes : List ℕ) (decls : List Decl) (problem : Problem) → HasDeclarations bytes decls → first_unbuilt decls ≡ None → IsProblemOf decls problem → IsLawful problem → IsPlain problem

-- No text is refused and means a problem that is judged.
abbrev pub NoTextIsRefusedAndJudged : Type 0
NoTextIsRefusedAndJudged = (model : Model) (bytes : List ℕ) (place : Place) (cause : List ℕ) (problem : Problem) → IsRefused bytes place cause → MeansJudged model bytes problem → ⊥

-- No text is refused at two places, or with two texts of causes.
abbrev pub NoTextIsRefusedTwice : Type 0
NoTextIsRefusedTwice = (bytes : List ℕ) (place other : Place) (cause second : List ℕ) → IsRefused bytes place cause → IsRefused bytes other second → (place ≡ other) × (cause ≡ second)

-- The same of the theory of a text.
abbrev pub NoTheoryIsRefusedTwice : Type 0
NoTheoryIsRefusedTwice = (bytes : List ℕ) (place other : Place) (cause second : List ℕ) → HasNoTheory bytes place cause → HasNoTheory bytes other second → (place ≡ other) × (cause ≡ second)

-- No text has an accepted theory and none.
abbrev pub NoTextHasTheoryAndNone : Type 0
NoTextHasTheoryAndNone = (bytes : List ℕ) (place : Place) (cause : List ℕ) (rules : ℕ) → HasNoTheory bytes place cause → MeansTheory bytes rules → ⊥

-- No text means an equivalent problem and has an attack, in one model.
abbrev pub NoTextIsEquivalentAndAttacked : Type 0
NoTextIsEquivalentAndAttacked = (model : Model) (bytes trace : List ℕ) → MeansEquivalent model bytes → IsAttacked model bytes trace → ⊥

-- A text that is not too long is refused, or means a problem that is judged.
abbrev pub EachTextIsRefusedOrJudged : Type 0
EachTextIsRefusedOrJudged =
    (model : Model) (bytes : List ℕ) → length bytes ≤ 1048576
    → ((place : Place) × ((cause : List ℕ) × IsRefused bytes place cause)) ⊎ ((problem : Problem) × MeansJudged model bytes problem)
