-- Texts that mean a problem which is judged, in a model of communication.
use Rattle.std.specs.Prelude.{◌≡◌, ℕ, List, None}
use Rattle.dps_process.specs.Models.{Model}
use Rattle.dps_process.specs.Problem.{Problem}
use Rattle.dps_process.specs.Traces.{IsEquivalent}
use Rattle.dps_syntax.specs.declared.tree.Decl.{Decl}
use Rattle.dps_meaning.specs.Meaning.{HasDeclarations, Means}
use Rattle.dps_judge.specs.Unbuilt.{first_unbuilt}

-- the text is a file that uses nothing that is not judged yet
pub record HasNothingUnbuilt (bytes : List ℕ) : Type 0 where
  pub decls : List Decl
  pub text : HasDeclarations bytes decls
  pub built : first_unbuilt decls ≡ None

-- The text means the problem in this model, and it is judged.
pub record MeansJudged (model : Model) (bytes : List ℕ) (problem : Problem) : Type 0 where
  pub means : Means bytes problem
  pub in_model : problem.model ≡ model
  pub built : HasNothingUnbuilt bytes

-- the text means a problem that is judged, and its processes are equivalent, or are not
pub record MeansEquivalent (model : Model) (bytes : List ℕ) : Type 0 where
  pub problem : Problem
  pub means : MeansJudged model bytes problem
  pub equivalent : IsEquivalent problem

pub record MeansDifferent (model : Model) (bytes : List ℕ) : Type 0 where
  pub problem : Problem
  pub means : MeansJudged model bytes problem
  pub different : ¬ IsEquivalent problem
