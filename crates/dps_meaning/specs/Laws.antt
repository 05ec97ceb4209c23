-- What a reader may expect of what texts mean. Each of these statements is the contract of a function of the crate.
use Rattle.std.specs.Prelude.{◌≡◌, ◌⊎◌, ◌≤◌, ℕ, List, length}
use Rattle.dps_lex.specs.declared.vocabulary.Place.{Place}
use Rattle.dps_process.specs.Models.{Model}
use Rattle.dps_process.specs.Problem.{Problem, IsLawful, HasHighBinders}
use Rattle.dps_syntax.specs.declared.tree.Decl.{Decl}
use Rattle.dps_syntax.specs.declared.tree.File.{File}
use Rattle.dps_syntax.specs.Files.{IsFileOfText}
use Rattle.dps_names.specs.Program.{Program}
use Rattle.dps_meaning.specs.Causes.{Cause}
use Rattle.dps_meaning.specs.Meaning.{HasDeclarations, Says, MeansTheory, Means}
use Rattle.dps_meaning.specs.Faults.{HasTheoryFault, HasFault}

-- The file that a text is read as has the declarations of the text.
abbrev pub ReadFilesAreDeclared : Type 0
ReadFilesAreDeclared = (bytes : List ℕ) (file : File) → IsFileOfText bytes file → HasDeclarations bytes file.declarations.items

-- A text is at most one file.
abbrev pub NoTextHasTwoFiles : Type 0
NoTextHasTwoFiles = (bytes : List ℕ) (decls others : List Decl) → HasDeclarations bytes decls → HasDeclarations bytes others → decls ≡ others

-- A text says at most one program.
abbrev pub NoTextSaysTwoPrograms : Type 0
NoTextSaysTwoPrograms = (bytes : List ℕ) (program other : Program) → Says bytes program → Says bytes other → program ≡ other

-- A text means at most one problem in a model.
abbrev pub NoTextMeansTwoProblems : Type 0
NoTextMeansTwoProblems = (bytes : List ℕ) (problem other : Problem) → Means bytes problem → Means bytes other → problem.model ≡ other.model → problem ≡ other

-- Each problem that a text of at most 1,048,576 bytes means is lawful, and its bound variables have numbers from 2^63 on.
abbrev pub MeaningsAreLawful : Type 0
MeaningsAreLawful = (bytes : List ℕ) (problem : Problem) → length bytes ≤ 1048576 → Means bytes problem → IsLawful problem × HasHighBinders problem

-- No text has an accepted theory and a fault up to its rules.
abbrev pub NoTextHasFaultAndTheory : Type 0
NoTextHasFaultAndTheory = (bytes : List ℕ) (place : Place) (cause : Cause) (count : ℕ) → HasTheoryFault bytes place cause → MeansTheory bytes count → ⊥

-- No text has a fault and means a problem.
abbrev pub NoTextHasFaultAndMeaning : Type 0
NoTextHasFaultAndMeaning = (bytes : List ℕ) (place : Place) (cause : Cause) (problem : Problem) → HasFault bytes place cause → Means bytes problem → ⊥

-- No text has a first fault at two places, or for two causes.
abbrev pub NoTextHasTwoFaults : Type 0
NoTextHasTwoFaults =
    (bytes : List ℕ) (place other : Place) (cause second : Cause) → HasFault bytes place cause → HasFault bytes other second → (place ≡ other) × (cause ≡ second)

-- The same of first faults up to the rules.
abbrev pub NoTextHasTwoTheoryFaults : Type 0
NoTextHasTwoTheoryFaults =
    (bytes : List ℕ) (place other : Place) (cause second : Cause) → HasTheoryFault bytes place cause → HasTheoryFault bytes other second → (place ≡ other) × (cause ≡ second)

-- a problem that the text means, in this model
pub record IsMeant (bytes : List ℕ) (model : Model) : Type 0 where
  pub problem : Problem
  pub means : Means bytes problem
  pub in_model : problem.model ≡ model

-- A text that is not too long has a first fault, or means a problem in each model.
abbrev pub EachTextHasFaultOrMeaning : Type 0
EachTextHasFaultOrMeaning =
    (bytes : List ℕ) → length bytes ≤ 1048576 → ((place : Place) × ((cause : Cause) × HasFault bytes place cause)) ⊎ ((model : Model) → IsMeant bytes model)
