-- What is found of a report, part by part.
use Rattle.std.specs.Prelude.{◌≡◌, ℕ, List, ◌++◌, Option, Some, IfSome, All}
use Rattle.dps_trace.specs.Cut.{IsWithout}
use Rattle.dps_trace.specs.Text.{line}
use Rattle.dps_trace.specs.declared.model.ModelName.{ModelName}
use Rattle.dps_report.specs.declared.format.Format.{Format}
use Rattle.dps_report.specs.declared.outcome.Outcome.{Outcome}
use Rattle.dps_report.specs.declared.results.ResultName.{ResultName}
use Rattle.dps_report.specs.Outcomes.{IsFitting, HasPath, IsTestText, HasTests, Names}
use Rattle.dps_report.specs.Reports.{result_of, behind_result, outcome_lines, each_test, tests_if_named}

-- The bytes are a word, a value on one line, and the rest.
pub record IsField (word bytes value rest : List ℕ) : Type 0 where
  pub whole : bytes ≡ word ++ line value rest
  pub one_line : IsWithout 10 value

-- what is found is an outcome of this format, and each one with this result and with these lines behind it is found
pub record FindsResult (format : Format) (name : ResultName) (bytes : List ℕ) (found : Option Outcome) : Type 0 where
  pub fitting : IfSome found (IsFitting format)
  pub only : (outcome : Outcome) → IsFitting format outcome → HasPath outcome → result_of outcome ≡ name → bytes ≡ behind_result outcome → found ≡ Some outcome

-- the same of one with these lines behind the first
pub record FindsOutcome (format : Format) (bytes : List ℕ) (found : Option Outcome) : Type 0 where
  pub fitting : IfSome found (IsFitting format)
  pub only : (outcome : Outcome) → IsFitting format outcome → HasPath outcome → bytes ≡ outcome_lines outcome → found ≡ Some outcome

-- what is found are texts of tests, and each list of them with these lines is found
pub record FindsTests (bytes : List ℕ) (found : Option (List (List ℕ))) : Type 0 where
  pub tests : IfSome found (All IsTestText)
  pub only : (tests : List (List ℕ)) → All IsTestText tests → bytes ≡ each_test tests → found ≡ Some tests

-- The same of the tests that stand behind the side's line, with their number before them: in format 1 there are none.
pub record FindsListedTests (format : Format) (bytes : List ℕ) (found : Option (List (List ℕ))) : Type 0 where
  pub tests : IfSome found (λ tests. HasTests format tests × All IsTestText tests)
  pub only : (model : Option ModelName) (tests : List (List ℕ)) → Names format model → HasTests format tests → All IsTestText tests → bytes ≡ tests_if_named model tests → found ≡ Some tests
