-- What a file says once its names are looked up: a signature, rules, and processes in which a name is no text any more.
use Rattle.std.specs.Prelude.{ℕ, List, []}
use Rattle.dps_lex.specs.declared.vocabulary.Place.{Place}
use Rattle.dps_signature.specs.Signature.{Signature}
use Rattle.dps_theory.specs.Theory.{Rule}
use Rattle.dps_names.specs.declared.program.Side.{Side}
pub use Rattle.dps_scopes.specs.Written.{Written}
pub use Rattle.dps_scopes.specs.Body.{Body, Bodies, nil, parallel, choice, copies, fresh, input, output, conditional, bind, call, none, more, bodies}
pub use Rattle.dps_scopes.specs.Definition.{Definition}

-- a rule, where it begins, and the texts of its variables: `var i` in it is the i-th
pub record WrittenRule : Type 0 where
  pub rule : Rule
  pub place : Place
  pub variables : List (List ℕ)

-- A whole file: its sides have a body and the place where they begin. Definitions are numbered from 0, in text order.
pub record Program : Type 0 where
  pub signature : Signature
  pub rules : List WrittenRule
  pub definitions : List Definition
  pub left : Side
  pub right : Side

-- the text up to its first declaration says nothing
abbrev pub nowhere : Place
nowhere = record { line = 0; column = 0 }

abbrev pub no_side : Side
no_side = record { body = nil; place = nowhere }

abbrev pub empty : Program
empty = record { signature = record { symbols = []; names = [] }; rules = []; definitions = []; left = no_side; right = no_side }
