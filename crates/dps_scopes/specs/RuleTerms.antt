-- The terms of rewrite rules, with their names looked up. An identifier that is not declared is a variable.
use Rattle.std.specs.Prelude.{ℕ, zero, suc, Bool, true, false, ◌&&◌, ◌==◌, nat_le, if◌then◌else◌, List, [], ◌∷◌, ◌++◌, length, unwrap_or, position, is_some}
use Rattle.std.specs.Str.{bytes_eq}
use Rattle.dps_lex.specs.declared.vocabulary.TokenKind.TheVariants as kinds
use Rattle.dps_terms.specs.declared.PublicName.TheVariants.{Declared}
use Rattle.dps_terms.specs.declared.Sym.{Sym}
use Rattle.dps_terms.specs.Tree.{public, var, Tree, leaf, app, trees}
use Rattle.dps_signature.specs.Signature.{Signature}
use Rattle.dps_syntax.specs.Tree.{Lexeme, Parts, none, token, inner}
use Rattle.dps_scopes.specs.declared.fault.NameCause.TheVariants.{UnknownName, WrongArity, WrongKind, LargeArity, PrivateInRule}
use Rattle.dps_scopes.specs.Definition.{Definition}
use Rattle.dps_scopes.specs.declared.meaning.Meaning.{Meaning}
use Rattle.dps_scopes.specs.declared.meaning.Meaning.TheVariants.{Local as a_local, Name as a_name, Function as a_function, Process as a_process, Projection as a_projection, Unknown as unknown}
use Rattle.dps_scopes.specs.Outcome.{Outcome, done, and_then, fault_at}
use Rattle.dps_scopes.specs.Scopes.{most_arguments, with_tuple, declared_meaning}
use Rattle.dps_scopes.specs.Terms.{is_kind, count_inner}

-- what is known inside a rule: the signature, and the rule's variables so far, by first occurrence
pub record InRule : Type 0 where
  pub signature : Signature
  pub variables : List (List ℕ)

-- the number of a variable, and the variables with it
abbrev pub variable_number : List (List ℕ) → List ℕ → ℕ
variable_number variables text = unwrap_or (position (bytes_eq text) variables) (length variables)

abbrev pub with_variable : List (List ℕ) → List ℕ → List (List ℕ)
with_variable variables text = if is_some (position (bytes_eq text) variables) then variables else variables ++ text ∷ []

abbrev pub variable : InRule → List ℕ → Outcome InRule Tree
variable state text = done (leaf (var (variable_number state.variables text))) (record { signature = state.signature; variables = with_variable state.variables text })

-- An identifier that is not declared: with brackets behind it, it is unknown.
abbrev pub variable_or_unknown : Lexeme → Bool → InRule → Outcome InRule Tree
variable_or_unknown lexeme true state = fault_at UnknownName lexeme
variable_or_unknown lexeme false state = variable state lexeme.text

-- A declared name in a rule: it takes no arguments, and is public.
abbrev pub public_name : Lexeme → ℕ → Bool → ℕ → InRule → Outcome InRule Tree
public_name lexeme (suc count) is_private n state = fault_at WrongArity lexeme
public_name lexeme zero true n state = fault_at PrivateInRule lexeme
public_name lexeme zero false n state = done (leaf (public (Declared n))) state

abbrev pub function_in_rule : Lexeme → Bool → Outcome InRule (List Tree) → Sym → Outcome InRule Tree
function_in_rule lexeme true arguments f = and_then arguments (λ ts state. done (app f (trees ts)) state)
function_in_rule lexeme false arguments f = fault_at WrongArity lexeme

abbrev pub identifier_in_rule : Lexeme → Bool → ℕ → (InRule → Outcome InRule (List Tree)) → InRule → Meaning → Outcome InRule Tree
identifier_in_rule lexeme has_brackets count arguments state (a_name n is_private) = public_name lexeme count is_private n state
identifier_in_rule lexeme has_brackets count arguments state (a_function f arity) =
    function_in_rule lexeme (count == arity && nat_le arity most_arguments) (arguments state) f
identifier_in_rule lexeme has_brackets count arguments state (a_process n parameters) = fault_at WrongKind lexeme
identifier_in_rule lexeme has_brackets count arguments state (a_local n) = variable_or_unknown lexeme has_brackets state
identifier_in_rule lexeme has_brackets count arguments state (a_projection projection) = variable_or_unknown lexeme has_brackets state
identifier_in_rule lexeme has_brackets count arguments state unknown = variable_or_unknown lexeme has_brackets state

abbrev pub first_tree : List Tree → Tree
first_tree [] = leaf (var 0)
first_tree (t ∷ ts) = t

abbrev pub with_signature : InRule → Signature → InRule
with_signature state signature = record { signature = signature; variables = state.variables }

abbrev pub tuple_in_rule : ℕ → (InRule → Outcome InRule (List Tree)) → InRule → Lexeme → Outcome InRule Tree
tuple_in_rule count members state lexeme =
    if nat_le count 1 then and_then (members state) (λ ts after. done (first_tree ts) after)
    else (if nat_le count most_arguments then
    (let tuple = with_tuple state.signature count in
    and_then (members (with_signature state tuple.signature)) (λ ts after. done (app (record { number = tuple.symbol }) (trees ts)) after))
    else fault_at LargeArity lexeme)

-- something stands behind the identifier
abbrev pub has_more : Parts → Bool
has_more none = false
has_more (token lexeme parts) = true
has_more (inner p inside parts) = true

module _ (definitions : List Definition) where
  abbrev mutual
    pub rule_term : Parts → InRule → Outcome InRule Tree
    rule_term none state = done (leaf (var 0)) state
    rule_term (inner p inside parts) state = rule_term inside state
    rule_term (token lexeme parts) state =
        if is_kind kinds.Identifier lexeme
        then identifier_in_rule lexeme (has_more parts) (count_inner parts) (rule_terms parts) state (declared_meaning state.signature definitions lexeme.text)
        else tuple_in_rule (count_inner parts) (rule_terms parts) state lexeme

    pub rule_terms : Parts → InRule → Outcome InRule (List Tree)
    rule_terms none state = done [] state
    rule_terms (token lexeme parts) state = rule_terms parts state
    rule_terms (inner p inside parts) state =
        and_then (rule_term inside state) (λ t after. and_then (rule_terms parts after) (λ ts last. done (t ∷ ts) last))
