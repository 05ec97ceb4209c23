-- What a text means, in a model: a problem, or nothing.
use Rattle.std.specs.Prelude.{◌≡◌, ℕ, List, string_bytes}
use Rattle.dps_lex.specs.declared.vocabulary.Place.{Place}
use Rattle.dps_syntax.specs.declared.tree.Decl.{Decl}
use Rattle.dps_process.specs.Models.{Model}
use Rattle.dps_process.specs.Problem.{Problem}
use Rattle.dps_meaning.specs.Meaning.{HasDeclarations, Means}
use Rattle.dps_judge.specs.declared.reading.Meaning.{Meaning}
use Rattle.dps_judge.specs.declared.reading.Meaning.TheVariants.{Found, Refused}
use Rattle.dps_judge.specs.Judgement.{HasNoMeaning}

-- the text means the problem, whose model is this one
pub record MeansIn (model : Model) (bytes : List ℕ) (problem : Problem) : Type 0 where
  pub means : Means bytes problem
  pub in_model : problem.model ≡ model

-- what is answered of a text
abbrev pub IsMeaning : Model → List ℕ → Meaning → Type 0
IsMeaning model bytes (Found problem) = MeansIn model bytes problem
IsMeaning model bytes (Refused place cause) = HasNoMeaning bytes place (string_bytes cause)

-- the same of a file: of each text with these declarations
abbrev pub IsMeaningOf : Model → List Decl → Meaning → Type 0
IsMeaningOf model decls meaning = (bytes : List ℕ) → HasDeclarations bytes decls → IsMeaning model bytes meaning

-- what is refused: a place, and what is printed for the cause
abbrev pub RefusesMeaning : Place → List ℕ → Meaning → Type 0
RefusesMeaning place cause (Found problem) = ⊥
RefusesMeaning place cause (Refused found why) = (found ≡ place) × (string_bytes why ≡ cause)
