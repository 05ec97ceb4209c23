-- The theory that a list of symbols' kinds and arities and a list of rules stand for.
use Rattle.std.specs.Prelude.{List, map}
use Rattle.dps_signature.specs.Signature.{Shape}
use Rattle.dps_theory.specs.Theory.{Rule, Theory, IsAccepted, HasPlainRules}
use Rattle.dps_theory.specs.declared.shapes.SymbolShape.{SymbolShape}

abbrev pub shape_of : SymbolShape → Shape
shape_of s = record { kind = s.kind; arity = s.arity }

abbrev pub theory_of : List SymbolShape → List Rule → Theory
theory_of shapes rules = record { shapes = map shape_of shapes; rules = rules }

-- the theory is accepted, and its rules hold declared names and variables alone
pub record IsKept (theory : Theory) : Type 0 where
  pub accepted : IsAccepted theory
  pub plain : HasPlainRules theory
