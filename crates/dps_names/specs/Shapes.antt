-- The shapes of processes: what stands behind their first token.
use Rattle.std.specs.Prelude.{◌≡◌, ⊤, List}
use Rattle.dps_signature.specs.Signature.{Signature}
use Rattle.dps_syntax.specs.declared.grammar.Production.{Production}
use Rattle.dps_syntax.specs.Tree.{Lexeme, Parts, none, token, inner}
use Rattle.dps_scopes.specs.Outcome.{done}
use Rattle.dps_scopes.specs.Scopes.{Locals}
use Rattle.dps_names.specs.Program.{Definition, nil}
use Rattle.dps_names.specs.Processes.{grouped, repeated, restricted, received, sent, compared, matched, continued}

-- no token stands first, or no production does
abbrev pub HasNoToken : Parts → Type 0
HasNoToken (token lexeme parts) = ⊥
HasNoToken none = ⊤
HasNoToken (inner p inside parts) = ⊤

abbrev pub HasNoInner : Parts → Type 0
HasNoInner (inner p inside parts) = ⊥
HasNoInner none = ⊤
HasNoInner (token lexeme parts) = ⊤

-- a production stands first, and what stands behind it
pub record IsLed (parts inside behind : Parts) : Type 0 where
  pub p : Production
  pub split : parts ≡ inner p inside behind

-- a production stands first: `Par )`
pub record IsGroup (parts inside : Parts) : Type 0 where
  pub p : Production
  pub behind : Parts
  pub split : parts ≡ inner p inside behind

pub record IsNoGroup (parts : Parts) : Type 0 where
  pub groups : (definitions : List Definition) (scope : Locals) (s : Signature) → grouped definitions scope parts s ≡ done nil s

-- a token and a production: `; Pre` or `else Pre`
pub record IsContinued (parts inside : Parts) : Type 0 where
  pub sign : Lexeme
  pub p : Production
  pub behind : Parts
  pub split : parts ≡ token sign (inner p inside behind)

pub record IsEnded (parts : Parts) : Type 0 where
  pub continues : (definitions : List Definition) (scope : Locals) (s : Signature) → continued definitions scope parts s ≡ done nil s

-- two tokens and a production: `^ number Pre` or `id ; Pre`
pub record IsPrefixed (parts : Parts) (first second : Lexeme) (inside : Parts) : Type 0 where
  pub p : Production
  pub behind : Parts
  pub split : parts ≡ token first (token second (inner p inside behind))

pub record IsNotPrefixed (parts : Parts) : Type 0 where
  pub repeats : (definitions : List Definition) (scope : Locals) (s : Signature) → repeated definitions scope parts s ≡ done nil s
  pub restricts : (definitions : List Definition) (scope : Locals) (s : Signature) → restricted definitions scope parts s ≡ done nil s

-- `( id , Pattern )` or `( id , Term )`
pub record IsExchange (parts : Parts) (name : Lexeme) (inside rest : Parts) : Type 0 where
  pub bracket : Lexeme
  pub comma : Lexeme
  pub close : Lexeme
  pub p : Production
  pub split : parts ≡ token bracket (token name (token comma (inner p inside (token close rest))))

pub record IsNoExchange (parts : Parts) : Type 0 where
  pub receives : (definitions : List Definition) (scope : Locals) (s : Signature) → received definitions scope parts s ≡ done nil s
  pub sends : (definitions : List Definition) (scope : Locals) (s : Signature) → sent definitions scope parts s ≡ done nil s

-- `Term = Term then Pre` or `Pattern = Term in Pre`
pub record IsComparison (parts left right chosen rest : Parts) : Type 0 where
  pub p : Production
  pub q : Production
  pub r : Production
  pub equals : Lexeme
  pub word : Lexeme
  pub split : parts ≡ inner p left (token equals (inner q right (token word (inner r chosen rest))))

pub record IsNoComparison (parts : Parts) : Type 0 where
  pub compares : (definitions : List Definition) (scope : Locals) (s : Signature) → compared definitions scope parts s ≡ done nil s
  pub matches : (definitions : List Definition) (scope : Locals) (s : Signature) → matched definitions scope parts s ≡ done nil s
