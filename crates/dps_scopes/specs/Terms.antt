-- Terms of processes, with their names looked up. Each function reads the parts of one production.
use Rattle.std.specs.Prelude.{ℕ, zero, suc, ◌+◌, Bool, true, false, ◌&&◌, ◌==◌, nat_le, if◌then◌else◌, List, [], ◌∷◌, ◌++◌}
use denote.Enum.Bare.{sameb}
use Rattle.dps_lex.specs.contracts.vocabulary.TokenKind.{the_type}
use Rattle.dps_lex.specs.declared.vocabulary.TokenKind.{TokenKind}
use Rattle.dps_lex.specs.declared.vocabulary.TokenKind.TheVariants as kinds
use Rattle.dps_terms.specs.declared.PublicName.TheVariants.{Declared}
use Rattle.dps_terms.specs.declared.Sym.{Sym}
use Rattle.dps_terms.specs.Tree.{Leaf, public, private, var, Tree, leaf, app, trees}
use Rattle.dps_signature.specs.Signature.{Signature, private_number}
use Rattle.dps_syntax.specs.Tree.{Lexeme, Parts, none, token, inner}
use Rattle.dps_scopes.specs.declared.fault.NameCause.TheVariants.{UnknownName, WrongArity, WrongKind, LargeArity}
use Rattle.dps_scopes.specs.declared.written.Use.{Use}
use Rattle.dps_scopes.specs.declared.written.Use.TheVariants.{PrivateName, Local}
use Rattle.dps_scopes.specs.Written.{Written}
use Rattle.dps_scopes.specs.Definition.{Definition}
use Rattle.dps_scopes.specs.declared.meaning.Meaning.{Meaning}
use Rattle.dps_scopes.specs.declared.meaning.Meaning.TheVariants.{Local as a_local, Name as a_name, Function as a_function, Process as a_process, Projection as a_projection, Unknown as unknown}
use Rattle.dps_scopes.specs.Faults.{place_of}
use Rattle.dps_scopes.specs.Outcome.{Outcome, done, and_then, fault_at}
use Rattle.dps_scopes.specs.Scopes.{Locals, most_arguments, with_tuple, meaning}

abbrev pub is_kind : TokenKind → Lexeme → Bool
is_kind kind lexeme = sameb the_type kind lexeme.kind

-- how many productions stand in a row
abbrev pub count_inner : Parts → ℕ
count_inner none = 0
count_inner (token lexeme parts) = count_inner parts
count_inner (inner p inside parts) = 1 + count_inner parts

-- a name, a local or a function, with its arguments
abbrev pub written : Leaf → List Use → Written
written x uses = record { tree = leaf x; uses = uses }

abbrev pub all_trees : List Written → List Tree
all_trees [] = []
all_trees (w ∷ ws) = w.tree ∷ all_trees ws

abbrev pub all_uses : List Written → List Use
all_uses [] = []
all_uses (w ∷ ws) = w.uses ++ all_uses ws

abbrev pub applied : Sym → List Written → Written
applied f arguments = record { tree = app f (trees (all_trees arguments)); uses = all_uses arguments }

-- a declared name: a private one is written as its number among the private ones
abbrev pub name_written : Signature → Lexeme → ℕ → Bool → Written
name_written signature lexeme n false = written (public (Declared n)) []
name_written signature lexeme n true = written (private (private_number signature n)) (PrivateName n (place_of lexeme) ∷ [])

-- what is without arguments, and has none here
abbrev pub without_arguments : Lexeme → ℕ → Signature → Written → Outcome Signature Written
without_arguments lexeme zero signature w = done w signature
without_arguments lexeme (suc n) signature w = fault_at WrongArity lexeme

-- The function of that number over arguments that are read behind it, of which there are so many.
abbrev pub function_of : Lexeme → Bool → Outcome Signature (List Written) → Sym → Outcome Signature Written
function_of lexeme true arguments f = and_then arguments (λ ws signature. done (applied f ws) signature)
function_of lexeme false arguments f = fault_at WrongArity lexeme

-- An identifier of a term, with so many arguments; `arguments` reads them.
abbrev pub identifier_as : Lexeme → ℕ → (Signature → Outcome Signature (List Written)) → Signature → Meaning → Outcome Signature Written
identifier_as lexeme count arguments signature (a_local n) = without_arguments lexeme count signature (written (var n) (Local n ∷ []))
identifier_as lexeme count arguments signature (a_name n is_private) = without_arguments lexeme count signature (name_written signature lexeme n is_private)
identifier_as lexeme count arguments signature (a_function f arity) =
    function_of lexeme (count == arity && nat_le arity most_arguments) (arguments signature) f
identifier_as lexeme count arguments signature (a_process n parameters) = fault_at WrongKind lexeme
identifier_as lexeme count arguments signature (a_projection projection) =
    let tuple = with_tuple signature projection.length in
    function_of lexeme (count == 1) (arguments tuple.signature) (record { number = tuple.symbol + projection.index })
identifier_as lexeme count arguments signature unknown = fault_at UnknownName lexeme

-- Brackets round one term are nothing, and round several they are a tuple. What no text writes is the first private name,
-- since a private name may stand in any scope.
abbrev pub the_first : List Written → Written
the_first [] = written (private 0) []
the_first (w ∷ ws) = w

abbrev pub tuple_of : ℕ → (Signature → Outcome Signature (List Written)) → Signature → Lexeme → Outcome Signature Written
tuple_of count members signature lexeme =
    if nat_le count 1 then and_then (members signature) (λ ws after. done (the_first ws) after)
    else (if nat_le count most_arguments then
    (let tuple = with_tuple signature count in
    and_then (members tuple.signature) (λ ws after. done (applied (record { number = tuple.symbol }) ws) after))
    else fault_at LargeArity lexeme)

module _ (definitions : List Definition) (scope : Locals) where
  abbrev mutual
    -- Term = id [ "(" [ Term { "," Term } ] ")" ] | "(" Term { "," Term } ")"
    pub term : Parts → Signature → Outcome Signature Written
    term none signature = done (written (private 0) []) signature
    term (inner p inside parts) signature = term inside signature
    term (token lexeme parts) signature =
        if is_kind kinds.Identifier lexeme
        then identifier_as lexeme (count_inner parts) (terms parts) signature (meaning signature definitions scope lexeme.text)
        else tuple_of (count_inner parts) (terms parts) signature lexeme

    -- the terms in a row, between signs
    pub terms : Parts → Signature → Outcome Signature (List Written)
    terms none signature = done [] signature
    terms (token lexeme parts) signature = terms parts signature
    terms (inner p inside parts) signature =
        and_then (term inside signature) (λ w after. and_then (terms parts after) (λ ws last. done (w ∷ ws) last))

  -- an identifier alone, as in a channel's place
  abbrev pub identifier : Lexeme → Signature → Outcome Signature Written
  identifier lexeme signature = identifier_as lexeme 0 (λ after. done [] after) signature (meaning signature definitions scope lexeme.text)
