-- Problems: two processes over a signature and a theory, in a model of communication.
use Rattle.std.specs.Prelude.{◌≡◌, ℕ, ◌+◌, ◌<◌, ◌≤◌, ◌^◌, List, length, Option, Some, None, slice_get}
use Rattle.dps_branch.specs.declared.Side.{Side}
use Rattle.dps_branch.specs.declared.Side.TheVariants.{Left, Right}
use Rattle.dps_signature.specs.declared.SymKind.{SymKind}
use Rattle.dps_signature.specs.declared.SymKind.TheVariants.{Constructor, Destructor}
use Rattle.dps_terms.specs.Tree.{Tree, Trees, leaf, app, none, more}
use Rattle.dps_signature.specs.Signature.{Signature, Shape, shapes}
use Rattle.dps_signature.specs.Kinds.{IsOver, IsSourceTerm}
use Rattle.dps_theory.specs.Theory.{Rule, Theory, HasRule, IsAccepted, HasPlainRules}
use Rattle.dps_process.specs.Models.{Model}
use Rattle.dps_process.specs.Process.{Process, IsClosedProcess, EachTerm, EachChannel, EachBinder, size, term_sum}

pub record Problem : Type 0 where
  pub signature : Signature
  pub theory : Theory
  pub model : Model
  pub left : Process
  pub right : Process

-- the process of a side
abbrev pub side_of : Problem → Side → Process
side_of problem Left = problem.left
side_of problem Right = problem.right

-- how many destructors stand in a term
abbrev pub as_destructor : SymKind → ℕ
as_destructor Destructor = 1
as_destructor Constructor = 0

abbrev pub shape_destructor : Option Shape → ℕ
shape_destructor (Some shape) = as_destructor shape.kind
shape_destructor None = 0

abbrev mutual
  pub destructors : List Shape → Tree → ℕ
  destructors known (leaf x) = 0
  destructors known (app f ts) = shape_destructor (slice_get known f.number) + destructors_of known ts

  pub destructors_of : List Shape → Trees → ℕ
  destructors_of known none = 0
  destructors_of known (more t ts) = destructors known t + destructors_of known ts

-- A side that a file may mean: closed, over the signature, with declared channels, and of a bounded size.
pub record IsLawfulSide (signature : Signature) (p : Process) : Type 0 where
  pub closed : IsClosedProcess p
  pub channels : EachChannel (λ c. c < length signature.names) p
  pub terms : EachTerm (IsSourceTerm signature) p
  pub small : size p ≤ 2 ^ 20
  pub few_destructors : term_sum (destructors (shapes signature)) p ≤ 65536

-- The theory of a problem that a file may mean: it is accepted, over just the symbols of the signature, and its rules
-- are written with declared names and variables.
pub record IsLawfulTheory (signature : Signature) (theory : Theory) : Type 0 where
  pub same_symbols : theory.shapes ≡ shapes signature
  pub accepted : IsAccepted theory
  pub rules_over : (r : Rule) → HasRule theory r → IsOver signature r.left × IsOver signature r.right
  pub rules_plain : HasPlainRules theory

-- a problem that a file may mean
pub record IsLawful (problem : Problem) : Type 0 where
  pub theory : IsLawfulTheory problem.signature problem.theory
  pub left : IsLawfulSide problem.signature problem.left
  pub right : IsLawfulSide problem.signature problem.right

-- Each bound variable has a number of at least 2^63. Below it stand the variables that are put for what the attacker
-- sends, so that no binder captures them.
pub record HasHighBinders (problem : Problem) : Type 0 where
  pub left : EachBinder (λ x. 2 ^ 63 ≤ x) problem.left
  pub right : EachBinder (λ x. 2 ^ 63 ≤ x) problem.right
