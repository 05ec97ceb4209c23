-- Rewrite rules, with their names looked up.
use Rattle.std.specs.Prelude.{ℕ, ◌-◌, ◌&&◌, ◌==◌, nat_le, if◌then◌else◌, List, [], ◌∷◌, length, take, slice_get, unwrap_or}
use Rattle.dps_signature.specs.declared.SymKind.TheVariants.{Destructor}
use Rattle.dps_terms.specs.declared.Sym.{Sym}
use Rattle.dps_terms.specs.Tree.{var, Tree, leaf, app, trees}
use Rattle.dps_signature.specs.Signature.{Signature}
use Rattle.dps_signature.specs.Names.{with_symbol}
use Rattle.dps_syntax.specs.Tree.{Lexeme, Parts, none, token, inner}
use Rattle.dps_scopes.specs.declared.fault.NameCause.TheVariants.{WrongArity, WrongKind, LargeArity, ReservedName}
use Rattle.dps_scopes.specs.declared.meaning.Meaning.{Meaning}
use Rattle.dps_scopes.specs.declared.meaning.Meaning.TheVariants.{Local as a_local, Name as a_name, Function as a_function, Process as a_process, Projection as a_projection, Unknown as unknown}
use Rattle.dps_scopes.specs.Faults.{place_of}
use Rattle.dps_scopes.specs.Outcome.{Outcome, done, faulty, and_then, fault_at}
use Rattle.dps_scopes.specs.Scopes.{most_arguments, is_reserved, declared_meaning}
use Rattle.dps_scopes.specs.Terms.{count_inner}
use Rattle.dps_scopes.specs.RuleTerms.{InRule, rule_terms}
use Rattle.dps_names.specs.Program.{Definition, WrittenRule}

-- The function at the root of a left side, over so many arguments. Where it is not declared, it is declared here, as
-- a destructor.
abbrev pub declared_root : Lexeme → ℕ → Signature → Outcome Signature Sym
declared_root lexeme count signature =
    if is_reserved lexeme.text then fault_at ReservedName lexeme
    else (if nat_le count most_arguments
    then done (record { number = length signature.symbols }) (with_symbol signature (record { name = lexeme.text; kind = Destructor; arity = count }))
    else fault_at LargeArity lexeme)

abbrev pub root_as : Lexeme → ℕ → Signature → Meaning → Outcome Signature Sym
root_as lexeme count signature (a_function f arity) = if count == arity && nat_le count most_arguments then done f signature else fault_at WrongArity lexeme
root_as lexeme count signature (a_name n is_private) = fault_at WrongArity lexeme
root_as lexeme count signature (a_process n parameters) = fault_at WrongKind lexeme
root_as lexeme count signature (a_local n) = declared_root lexeme count signature
root_as lexeme count signature (a_projection projection) = declared_root lexeme count signature
root_as lexeme count signature unknown = declared_root lexeme count signature

module _ (definitions : List Definition) where
  -- Rule = id "(" Term { "," Term } ")" "->" Term: the last of its terms is the right side.
  abbrev pub sides_of : Lexeme → Sym → ℕ → Outcome InRule (List Tree) → Outcome Signature WrittenRule
  sides_of lexeme f count (faulty fault) = faulty fault
  sides_of lexeme f count (done ts state) =
      done (record {
        rule = record { left = app f (trees (take count ts)); right = unwrap_or (slice_get ts count) (leaf (var 0)) };
        place = place_of lexeme;
        variables = state.variables;
      }) state.signature

  abbrev pub rule : Parts → Signature → Outcome Signature (List WrittenRule)
  rule none signature = done [] signature
  rule (inner p inside parts) signature = done [] signature
  rule (token lexeme parts) signature =
      and_then (root_as lexeme (count_inner parts - 1) signature (declared_meaning signature definitions lexeme.text)) (λ f after.
      and_then (sides_of lexeme f (count_inner parts - 1) (rule_terms definitions parts (record { signature = after; variables = [] }))) (λ r last.
      done (r ∷ []) last))
