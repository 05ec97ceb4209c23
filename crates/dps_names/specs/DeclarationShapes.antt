-- The shapes of declarations: what stands behind their first token.
use Rattle.std.specs.Prelude.{◌≡◌, ℕ, Bool, List, [], ◌∷◌, ◌++◌, Result, if◌then◌else◌}
use Rattle.dps_signature.specs.Names.{with_name}
use Rattle.dps_syntax.specs.declared.grammar.Production.{Production}
use Rattle.dps_syntax.specs.Tree.{Lexeme, Parts, token, inner}
use Rattle.dps_scopes.specs.declared.fault.NameCause.TheVariants.{NameTwice}
use Rattle.dps_scopes.specs.declared.fault.NameRefusal.{NameRefusal}
use Rattle.dps_scopes.specs.Outcome.{Outcome, Answers, done, and_then, fault_at}
use Rattle.dps_names.specs.Program.{Program}
use Rattle.dps_names.specs.Processes.{is_among}
use Rattle.dps_names.specs.Declarations.{Known, with_signature, names, declare_names, is_marked_private, functions, declaring, with_constructor, define, parameters}
use Rattle.dps_names.specs.Declarations.{define_with, query, side, with_sides}

-- one name, one function with its arity, and one parameter
abbrev pub one_name : Bool → Lexeme → Program → Known
one_name is_private lexeme program =
    and_then (declaring lexeme program) (λ _ after. done tt (with_signature after (with_name after.signature (record { name = lexeme.text; is_private = is_private }))))

abbrev pub one_function : Lexeme → Lexeme → Program → Known
one_function name arity program = and_then (declaring name program) (λ _ next. with_constructor name arity next)

abbrev pub one_parameter : Lexeme → List (List ℕ) → Outcome (List (List ℕ)) (Unit {0})
one_parameter lexeme texts = if is_among lexeme.text texts then fault_at NameTwice lexeme else done tt (texts ++ lexeme.text ∷ [])

-- names, and what stands behind them
pub record AreNames (parts inside behind : Parts) : Type 0 where
  pub says : (program : Program) → names parts program ≡ declare_names (is_marked_private behind) inside program

pub record AreNoNames (parts : Parts) : Type 0 where
  pub says : (program : Program) → names parts program ≡ done tt program

-- a function with its arity, and what stands behind them
pub record IsFunction (parts : Parts) (name arity : Lexeme) (behind : Parts) : Type 0 where
  pub word : Lexeme
  pub slash : Lexeme
  pub split : parts ≡ token word (token name (token slash (token arity behind)))

pub record IsNoFunction (parts : Parts) : Type 0 where
  pub says : (program : Program) → functions parts program ≡ done tt program

-- A process with a name and parameters. Where it has no brackets, it has no parameters.
pub record IsDefinition (parts : Parts) (name : Lexeme) (ids inside : Parts) : Type 0 where
  pub says :
      (program : Program) → define parts program ≡ and_then (declaring name program) (λ u next. and_then (parameters ids [] next) (λ texts after. define_with name texts inside after))

-- the body behind the parameters of a definition
pub record HasBody (parts inside : Parts) : Type 0 where
  pub close : Lexeme
  pub equals : Lexeme
  pub p : Production
  pub behind : Parts
  pub split : parts ≡ token close (token equals (inner p inside behind))

pub record HasNoBody (parts : Parts) : Type 0 where
  pub says :
      (word name equals : Lexeme) (p : Production) (inside : Parts) (program : Program) → define (token word (token name (token equals (inner p inside parts)))) program ≡ and_then
      (declaring name program) (λ u after. define_with name [] inside after)

pub record IsNoDefinition (parts : Parts) : Type 0 where
  pub says : (program : Program) → define parts program ≡ done tt program

-- the two sides of the query
pub record IsQuery (parts left right : Parts) : Type 0 where
  pub says :
      (program : Program) → query parts program ≡ and_then (side left program) (λ l next. and_then (side right next) (λ r after. done tt (with_sides after l r)))

pub record IsNoQuery (parts : Parts) : Type 0 where
  pub says : (program : Program) → query parts program ≡ done tt program

-- the texts of parameters, or their first fault, whatever else is known
pub record AreParameters (parts : Parts) (result : Result (List (List ℕ)) NameRefusal) : Type 0 where
  pub answers : (program : Program) → Answers (λ texts. texts) program result (parameters parts [] program)
