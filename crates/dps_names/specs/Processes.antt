-- Patterns and processes, with their names looked up. Each function reads the parts of one production.
use Rattle.std.specs.Prelude.{ℕ, ◌+◌, ◌-◌, ◌*◌, Bool, true, false, ◌&&◌, ◌==◌, nat_le, if◌then◌else◌, List, [], ◌∷◌, ◌++◌, length, position, is_some}
use Rattle.std.specs.Str.{byte, bytes_eq}
use Rattle.dps_lex.specs.declared.vocabulary.TokenKind.TheVariants as kinds
use Rattle.dps_terms.specs.declared.Sym.{Sym}
use Rattle.dps_signature.specs.Signature.{Signature}
use Rattle.dps_syntax.specs.Tree.{Lexeme, Parts, none as no_parts, token, inner}
use Rattle.dps_scopes.specs.declared.fault.NameCause.TheVariants.{NameTwice, UnknownName, WrongArity, WrongKind, LargeArity, BadCopies}
use Rattle.dps_scopes.specs.declared.body.Channel.{Channel}
use Rattle.dps_scopes.specs.declared.body.Step.{Step}
use Rattle.dps_scopes.specs.declared.body.Step.TheVariants.{Project, Test}
use Rattle.dps_scopes.specs.declared.meaning.Meaning.{Meaning}
use Rattle.dps_scopes.specs.declared.meaning.Meaning.TheVariants.{Local as a_local, Name as a_name, Function as a_function, Process as a_process, Projection as a_projection, Unknown as unknown}
use Rattle.dps_scopes.specs.Faults.{place_of}
use Rattle.dps_scopes.specs.Outcome.{Outcome, done, and_then, fault_at}
use Rattle.dps_scopes.specs.Scopes.{Locals, local_count, most_arguments, with_tuple, meaning}
use Rattle.dps_scopes.specs.Terms.{is_kind, count_inner, term, terms, identifier}
use Rattle.dps_names.specs.Program.{Written, Body, Bodies, nil, parallel, choice, copies, fresh, input, output, conditional, bind, call, bodies, Definition}
use Rattle.dps_names.specs.Starts.{start_of, by_start}

-- What a pattern says: steps, in order, and the texts of the locals that it makes.
pub record Pattern : Type 0 where
  pub steps : List Step
  pub names : List (List ℕ)

-- the value of a number's text, which is decimal digits
abbrev pub value_behind : ℕ → List ℕ → ℕ
value_behind n [] = n
value_behind n (b ∷ bs) = value_behind (n * 10 + (b - byte "0")) bs

abbrev pub number_of : Lexeme → ℕ
number_of lexeme = value_behind 0 lexeme.text

-- the text stands among these
abbrev pub is_among : List ℕ → List (List ℕ) → Bool
is_among text texts = is_some (position (bytes_eq text) texts)

-- the copies that `!^n` may ask for
abbrev pub most_copies : ℕ
most_copies = 64

-- the symbol of the i-th projection of the tuples whose symbol has this number
abbrev pub projection_symbol : ℕ → ℕ → Sym
projection_symbol tuple i = record { number = tuple + i }

-- One more local. The value that a pattern takes apart has no text, but where the pattern is a name.
abbrev pub with_name : Pattern → List ℕ → Pattern
with_name so_far text = record { steps = so_far.steps; names = so_far.names ++ text ∷ [] }

abbrev pub unnamed : Pattern → Pattern
unnamed so_far = with_name so_far []

abbrev pub with_step : Pattern → Step → Pattern
with_step so_far step = record { steps = so_far.steps ++ step ∷ []; names = so_far.names }

-- the number of the next local, behind those outside the pattern
abbrev pub next_local : Locals → Pattern → ℕ
next_local outside so_far = local_count outside + length so_far.names

-- A variable: the pattern has not named it before.
abbrev pub variable : {S : Type 0} → Lexeme → Pattern → S → Outcome S Pattern
variable lexeme so_far signature =
    if is_among lexeme.text so_far.names then fault_at NameTwice lexeme
    else done (with_name so_far lexeme.text) signature

-- A tuple of so many members, of which a pattern has at least two; `members` reads them.
abbrev pub tuple_pattern : Lexeme → ℕ → (ℕ → Signature → Outcome Signature Pattern) → Signature → Outcome Signature Pattern
tuple_pattern lexeme count members signature =
    if nat_le 2 count && nat_le count most_arguments
    then (let tuple = with_tuple signature count in members tuple.symbol tuple.signature)
    else fault_at LargeArity lexeme

-- a call of a defined process with so many arguments; `arguments` reads them
abbrev pub called : Lexeme → Bool → Outcome Signature (List Written) → ℕ → Outcome Signature Body
called lexeme true arguments n = and_then arguments (λ ws signature. done (call n ws) signature)
called lexeme false arguments n = fault_at WrongArity lexeme

abbrev pub call_as : Lexeme → ℕ → Outcome Signature (List Written) → Meaning → Outcome Signature Body
call_as lexeme count arguments (a_process n parameters) = called lexeme (count == parameters) arguments n
call_as lexeme count arguments (a_local n) = fault_at WrongKind lexeme
call_as lexeme count arguments (a_name n is_private) = fault_at WrongKind lexeme
call_as lexeme count arguments (a_function f arity) = fault_at WrongKind lexeme
call_as lexeme count arguments (a_projection projection) = fault_at WrongKind lexeme
call_as lexeme count arguments unknown = fault_at UnknownName lexeme

-- one process is itself, and several are joined
abbrev pub joined : (Bodies → Body) → List Body → Body
joined join [] = nil
joined join (p ∷ []) = p
joined join (p ∷ q ∷ ps) = join (bodies (p ∷ q ∷ ps))

abbrev pub is_number_of_copies : Lexeme → Bool
is_number_of_copies number = nat_le 1 (number_of number) && nat_le (number_of number) most_copies

module _ (definitions : List Definition) where
  -- A pattern, with the locals outside it, in which its terms are looked up.
  module _ (outside : Locals) where
    -- "=" Term: the value is the term
    abbrev pub tested : Parts → Pattern → Signature → Outcome Signature Pattern
    tested parts so_far signature =
        and_then (term definitions outside parts signature) (λ w after.
        done (with_step (unnamed so_far) (Test (next_local outside so_far) w)) after)

    abbrev mutual
      -- Pattern = id | "=" Term | "(" Pattern "," Pattern { "," Pattern } ")"
      pub pattern : Parts → Pattern → Signature → Outcome Signature Pattern
      pattern no_parts so_far signature = done so_far signature
      pattern (inner p inside parts) so_far signature = done so_far signature
      pattern (token lexeme parts) so_far signature =
          if is_kind kinds.Identifier lexeme then variable lexeme so_far signature
          else (if is_kind kinds.Equals lexeme then tested parts so_far signature
          else tuple_pattern lexeme (count_inner parts) (λ symbol after. members parts symbol (next_local outside so_far) 1 (unnamed so_far) after) signature)

      -- The members of the tuple that is the local `from`, from the i-th on.
      pub members : Parts → ℕ → ℕ → ℕ → Pattern → Signature → Outcome Signature Pattern
      members no_parts symbol from i so_far signature = done so_far signature
      members (token lexeme parts) symbol from i so_far signature = members parts symbol from i so_far signature
      members (inner p inside parts) symbol from i so_far signature =
          and_then (pattern inside (with_step so_far (Project (projection_symbol symbol i) from)) signature) (λ next after.
          members parts symbol from (i + 1) next after)

  -- the pattern that stands first in the parts
  abbrev pub pattern_in : Locals → Parts → Signature → Outcome Signature Pattern
  pattern_in scope parts signature = pattern scope parts (record { steps = []; names = [] }) signature

  abbrev pub channel : Locals → Lexeme → Signature → Outcome Signature Channel
  channel scope lexeme signature =
      and_then (identifier definitions scope lexeme signature) (λ w after. done (record { tree = w.tree; place = place_of lexeme }) after)

  abbrev mutual
    -- Par = Sum { "|" Sum }: the processes between the signs
    pub parallels : Locals → Parts → Signature → Outcome Signature (List Body)
    parallels scope no_parts signature = done [] signature
    parallels scope (token lexeme parts) signature = parallels scope parts signature
    parallels scope (inner p inside parts) signature =
        and_then (choices scope inside signature) (λ ps after.
        and_then (parallels scope parts after) (λ qs last. done (joined choice ps ∷ qs) last))

    -- Sum = Pre { "+" Pre }
    pub choices : Locals → Parts → Signature → Outcome Signature (List Body)
    choices scope no_parts signature = done [] signature
    choices scope (token lexeme parts) signature = choices scope parts signature
    choices scope (inner p inside parts) signature =
        and_then (process scope inside signature) (λ q after.
        and_then (choices scope parts after) (λ qs last. done (q ∷ qs) last))

    -- Pre, by the token that it begins with
    pub process : Locals → Parts → Signature → Outcome Signature Body
    process scope no_parts signature = done nil signature
    process scope (inner p inside parts) signature = done nil signature
    process scope (token first parts) signature =
        by_start (start_of first.kind)
        (call_as first (count_inner parts) (terms definitions scope parts signature) (meaning signature definitions scope first.text))
        (grouped scope parts signature)
        (repeated scope parts signature)
        (restricted scope parts signature)
        (received scope parts signature)
        (sent scope parts signature)
        (compared scope parts signature)
        (matched scope parts signature)
        (done nil signature)

    -- "(" Par ")"
    pub grouped : Locals → Parts → Signature → Outcome Signature Body
    grouped scope (inner p inside parts) signature =
        and_then (parallels scope inside signature) (λ ps after. done (joined parallel ps) after)
    grouped scope _ signature = done nil signature

    -- "!" "^" number Pre
    pub repeated : Locals → Parts → Signature → Outcome Signature Body
    repeated scope (token caret (token number (inner p inside parts))) signature =
        if is_number_of_copies number
        then and_then (process scope inside signature) (λ q after. done (copies (number_of number) q) after)
        else fault_at BadCopies number
    repeated scope _ signature = done nil signature

    -- "new" id ";" Pre
    pub restricted : Locals → Parts → Signature → Outcome Signature Body
    restricted scope (token name (token semicolon (inner p inside parts))) signature =
        and_then (process ((name.text ∷ []) ∷ scope) inside signature) (λ q after. done (fresh q) after)
    restricted scope _ signature = done nil signature

    -- "in" "(" id "," Pattern ")" [ ";" Pre ]
    pub received : Locals → Parts → Signature → Outcome Signature Body
    received scope (token bracket (token name (token comma (inner p inside (token close parts))))) signature =
        and_then (channel scope name signature) (λ c after.
        and_then (pattern_in scope inside after) (λ found next.
        and_then (continued (found.names ∷ scope) parts next) (λ q last.
        done (input c found.steps q) last)))
    received scope _ signature = done nil signature

    -- "out" "(" id "," Term ")" [ ";" Pre ]
    pub sent : Locals → Parts → Signature → Outcome Signature Body
    sent scope (token bracket (token name (token comma (inner p inside (token close parts))))) signature =
        and_then (channel scope name signature) (λ c after.
        and_then (term definitions scope inside after) (λ u next.
        and_then (continued scope parts next) (λ q last.
        done (output c u q) last)))
    sent scope _ signature = done nil signature

    -- "if" Term "=" Term "then" Pre [ "else" Pre ]
    pub compared : Locals → Parts → Signature → Outcome Signature Body
    compared scope (inner p left (token equals (inner q right (token word (inner r chosen parts))))) signature =
        and_then (term definitions scope left signature) (λ u after.
        and_then (term definitions scope right after) (λ v next.
        and_then (process scope chosen next) (λ p next.
        and_then (continued scope parts next) (λ q last.
        done (conditional u v p q) last))))
    compared scope _ signature = done nil signature

    -- "let" Pattern "=" Term "in" Pre [ "else" Pre ]
    pub matched : Locals → Parts → Signature → Outcome Signature Body
    matched scope (inner p inside (token equals (inner q right (token word (inner r chosen parts))))) signature =
        and_then (pattern_in scope inside signature) (λ found after.
        and_then (term definitions scope right after) (λ u next.
        and_then (process (found.names ∷ scope) chosen next) (λ p next.
        and_then (continued scope parts next) (λ q last.
        done (bind u found.steps p q) last))))
    matched scope _ signature = done nil signature

    -- what follows `;` or `else`, or `0` where nothing does
    pub continued : Locals → Parts → Signature → Outcome Signature Body
    continued scope (token sign (inner p inside parts)) signature = process scope inside signature
    continued scope _ signature = done nil signature
