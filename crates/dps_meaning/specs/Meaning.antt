-- What the declarations of a file mean, and what a text means.
use Rattle.std.specs.Prelude.{◌≡◌, ◌≤◌, ℕ, List, length, All}
use Rattle.dps_signature.specs.Signature.{Signature}
use Rattle.dps_theory.specs.Theory.{Theory, IsAccepted}
use Rattle.dps_process.specs.Problem.{Problem}
use Rattle.dps_syntax.specs.declared.tree.Decl.{Decl}
use Rattle.dps_syntax.specs.Files.{trees_of, HasItsKeyword}
use Rattle.dps_syntax.specs.LawsOfFiles.{IsTreeOfText}
use Rattle.dps_names.specs.Program.{Program}
use Rattle.dps_names.specs.Answers.{IsProgram}
use Rattle.dps_rules.specs.Rules.{theory_of}
use Rattle.dps_elab.specs.Meaning.{expanded, sides}

-- The declarations have this signature and this theory, which is accepted.
pub record IsTheoryOf (decls : List Decl) (signature : Signature) (theory : Theory) : Type 0 where
  pub program : Program
  pub named : IsProgram decls program
  pub same_signature : signature ≡ program.signature
  pub same_theory : theory ≡ theory_of program
  pub accepted : IsAccepted theory

-- The declarations mean the problem. They say nothing of its model of communication.
pub record IsProblemOf (decls : List Decl) (problem : Problem) : Type 0 where
  pub program : Program
  pub named : IsProgram decls program
  pub signature : problem.signature ≡ program.signature
  pub theory : problem.theory ≡ theory_of program
  pub accepted : IsAccepted problem.theory
  pub written : expanded program ≡ sides problem.left problem.right

-- The text is a file with these declarations.
pub record HasDeclarations (bytes : List ℕ) (decls : List Decl) : Type 0 where
  pub tree : IsTreeOfText bytes (trees_of decls)
  pub keywords : All HasItsKeyword decls

-- these are the declarations of some text that is not too long
pub record AreOfText (decls : List Decl) : Type 0 where
  pub bytes : List ℕ
  pub short : length bytes ≤ 1048576
  pub text : HasDeclarations bytes decls

-- The text is a file without a fault of its names, and this is what it says.
pub record Says (bytes : List ℕ) (program : Program) : Type 0 where
  pub decls : List Decl
  pub text : HasDeclarations bytes decls
  pub named : IsProgram decls program

-- The text has an accepted theory, and writes so many rules.
pub record MeansTheory (bytes : List ℕ) (count : ℕ) : Type 0 where
  pub program : Program
  pub says : Says bytes program
  pub accepted : IsAccepted (theory_of program)
  pub counted : count ≡ length program.rules

-- The text means the problem, whatever its model of communication is.
pub record Means (bytes : List ℕ) (problem : Problem) : Type 0 where
  pub decls : List Decl
  pub text : HasDeclarations bytes decls
  pub problem_of : IsProblemOf decls problem
