-- Declarations and files, with their names looked up.
use Rattle.std.specs.Prelude.{ℕ, Bool, false, ◌||◌, nat_le, if◌then◌else◌, List, [], ◌∷◌, ◌++◌, length, Option, Some, None}
use Rattle.dps_lex.specs.declared.vocabulary.Place.{Place}
use Rattle.dps_lex.specs.declared.vocabulary.TokenKind.TheVariants as kinds
use Rattle.dps_signature.specs.declared.SymKind.TheVariants.{Constructor}
use Rattle.dps_signature.specs.Signature.{Signature}
use Rattle.dps_signature.specs.Names.{with_symbol, with_name}
use Rattle.dps_syntax.specs.Tree.{Lexeme, Parts, none as no_parts, token, inner}
use Rattle.dps_syntax.specs.declared.tree.Decl.{Decl}
use Rattle.dps_syntax.specs.declared.tree.Decl.TheVariants.{Free, Const, Fun, Reduc, Define, Query}
use Rattle.dps_scopes.specs.declared.fault.NameCause.TheVariants.{NameTwice, ReservedName, LargeArity}
use Rattle.dps_scopes.specs.Faults.{place_of}
use Rattle.dps_scopes.specs.Outcome.{Outcome, done, faulty, and_then, fault_at}
use Rattle.dps_scopes.specs.Scopes.{Locals, most_arguments, is_reserved, declared_meaning, is_unknown}
use Rattle.dps_scopes.specs.Terms.{is_kind}
use Rattle.dps_names.specs.declared.program.Side.{Side}
use Rattle.dps_names.specs.Program.{Program, Definition, WrittenRule, Body, nowhere, empty, parallel}
use Rattle.dps_names.specs.Rules.{rule}
use Rattle.dps_names.specs.Processes.{number_of, is_among, joined, parallels}

-- The program with another part.
abbrev pub with_signature : Program → Signature → Program
with_signature program signature = record { signature = signature; rules = program.rules; definitions = program.definitions; left = program.left; right = program.right }

abbrev pub with_rules : Program → List WrittenRule → Program
with_rules program rules = record { signature = program.signature; rules = program.rules ++ rules; definitions = program.definitions; left = program.left; right = program.right }

abbrev pub with_definition : Program → Definition → Program
with_definition program definition = record { signature = program.signature; rules = program.rules; definitions = program.definitions ++ definition ∷ []; left = program.left; right = program.right }

abbrev pub with_sides : Program → Side → Side → Program
with_sides program left right = record { signature = program.signature; rules = program.rules; definitions = program.definitions; left = left; right = right }

-- A declaration changes what is known, and gives nothing else.
abbrev pub Known : Type 0
Known = Outcome Program (Unit {0})

-- The text may be declared: it is not reserved, and not declared already.
abbrev pub declaring : Lexeme → Program → Known
declaring lexeme program =
    if is_reserved lexeme.text then fault_at ReservedName lexeme
    else (if is_unknown (declared_meaning program.signature program.definitions lexeme.text) then done tt program
    else fault_at NameTwice lexeme)

-- Ids = id { "," id }, each a public or private name
abbrev pub declare_names : Bool → Parts → Program → Known
declare_names is_private no_parts program = done tt program
declare_names is_private (inner p inside parts) program = declare_names is_private parts program
declare_names is_private (token lexeme parts) program =
    if is_kind kinds.Identifier lexeme
    then and_then (declaring lexeme program) (λ u after.
    declare_names is_private parts (with_signature after (with_name after.signature (record { name = lexeme.text; is_private = is_private }))))
    else declare_names is_private parts program

-- whether `private` stands behind the names
abbrev pub is_marked_private : Parts → Bool
is_marked_private no_parts = false
is_marked_private (inner p inside parts) = is_marked_private parts
is_marked_private (token lexeme parts) = is_kind kinds.Private lexeme || is_marked_private parts

-- ("free" | "const") Ids [ "[" "private" "]" ] "."
abbrev pub names : Parts → Program → Known
names (token word (inner p inside parts)) program = declare_names (is_marked_private parts) inside program
names _ program = done tt program

-- an arity, at its number
abbrev pub with_constructor : Lexeme → Lexeme → Program → Known
with_constructor name arity program =
    if nat_le (number_of arity) most_arguments
    then done tt (with_signature program (with_symbol program.signature (record { name = name.text; kind = Constructor; arity = number_of arity })))
    else fault_at LargeArity arity

-- ("fun" | ",") id "/" number and so on, up to "."
abbrev pub functions : Parts → Program → Known
functions (token word (token name (token slash (token arity parts)))) program =
    and_then (declaring name program) (λ u next. and_then (with_constructor name arity next) (λ v after. functions parts after))
functions _ program = done tt program

-- Work on the signature is work on the program that has it.
abbrev pub in_signature : {A : Type 0} → Program → Outcome Signature A → Outcome Program A
in_signature program (done a signature) = done a (with_signature program signature)
in_signature program (faulty fault) = faulty fault

abbrev pub rule_in : Program → Parts → Known
rule_in program parts = and_then (in_signature program (rule program.definitions parts program.signature)) (λ rs after. done tt (with_rules after rs))

-- the rules between the signs
abbrev pub rules : Parts → Program → Known
rules no_parts program = done tt program
rules (token lexeme parts) program = rules parts program
rules (inner p inside parts) program = and_then (rule_in program inside) (λ u after. rules parts after)

-- The texts of parameters. None stands twice.
abbrev pub parameters : Parts → List (List ℕ) → Program → Outcome Program (List (List ℕ))
parameters no_parts texts program = done texts program
parameters (inner p inside parts) texts program = parameters parts texts program
parameters (token lexeme parts) texts program =
    if is_kind kinds.Identifier lexeme
    then (if is_among lexeme.text texts then fault_at NameTwice lexeme else parameters parts (texts ++ lexeme.text ∷ []) program)
    else parameters parts texts program

-- Par, as one process
abbrev pub body_of : Parts → Locals → Program → Outcome Program Body
body_of parts scope program =
    and_then (in_signature program (parallels program.definitions scope parts program.signature)) (λ ps after. done (joined parallel ps) after)

abbrev pub define_with : Lexeme → List (List ℕ) → Parts → Program → Known
define_with name texts inside program =
    and_then (body_of inside (texts ∷ []) program) (λ body after.
    done tt (with_definition after (record { name = name.text; parameters = length texts; body = body })))

-- "let" id [ "(" Ids ")" ] "=" Par "."
abbrev pub define : Parts → Program → Known
define (token word (token name (token bracket (inner p ids (token close (token equals (inner q inside parts))))))) program =
    and_then (declaring name program) (λ u next. and_then (parameters ids [] next) (λ texts after. define_with name texts inside after))
define (token word (token name (token equals (inner p inside parts)))) program =
    and_then (declaring name program) (λ u after. define_with name [] inside after)
define _ program = done tt program

-- the first token, and where it stands
abbrev pub earlier : Option Lexeme → Option Lexeme → Option Lexeme
earlier (Some lexeme) other = Some lexeme
earlier None other = other

abbrev pub first_lexeme : Parts → Option Lexeme
first_lexeme no_parts = None
first_lexeme (token lexeme parts) = Some lexeme
first_lexeme (inner p inside parts) = earlier (first_lexeme inside) (first_lexeme parts)

abbrev pub first_place : Option Lexeme → Place
first_place None = nowhere
first_place (Some lexeme) = place_of lexeme

abbrev pub side : Parts → Program → Outcome Program Side
side parts program = and_then (body_of parts [] program) (λ body after. done (record { body = body; place = first_place (first_lexeme parts) }) after)

-- "query" "trace_equiv" "(" Par "," Par ")" "."
abbrev pub query : Parts → Program → Known
query (token word (token relation (token bracket (inner p left (token comma (inner q right parts)))))) program =
    and_then (side left program) (λ l next. and_then (side right next) (λ r after. done tt (with_sides after l r)))
query _ program = done tt program

abbrev pub declaration : Decl → Program → Known
declaration (Free tree) program = names tree.parts program
declaration (Const tree) program = names tree.parts program
declaration (Fun tree) program = functions tree.parts program
declaration (Reduc tree) program = rules tree.parts program
declaration (Define tree) program = define tree.parts program
declaration (Query tree) program = query tree.parts program

abbrev pub declarations : List Decl → Program → Known
declarations [] program = done tt program
declarations (decl ∷ decls) program = and_then (declaration decl program) (λ u after. declarations decls after)

-- What a file says, or the first fault of its names.
abbrev pub names_of : List Decl → Known
names_of decls = declarations decls empty
