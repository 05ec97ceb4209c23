-- Terms of processes are over the signature behind them and the locals in scope.
use Rattle.std.proofs.Common.{◌≡◌, ℕ, zero, suc, ◌+◌, Bool, true, false, ◌&&◌, List, [], ◌∷◌, refl, sym, subst, arith, length}
use Rattle.std.specs.Prelude.{◌==◌, nat_le, All}
use Rattle.std.proofs.lemmas.Bool.{eqb-true}
use Rattle.std.proofs.lemmas.List.Elements.{All-nil, All-cons}
use Rattle.dps_lex.specs.declared.vocabulary.TokenKind.TheVariants as kinds
use Rattle.dps_terms.specs.declared.Sym.{Sym}
use Rattle.dps_terms.specs.Tree.{trees, count}
use Rattle.dps_signature.specs.Signature.{Signature, HasArity, IsNameThere, shapes}
use Rattle.dps_terms.specs.Kinds.{AreBuiltOf}
use Rattle.dps_syntax.specs.Tree.{Lexeme, Parts, none, token, inner}
use Rattle.dps_scopes.specs.declared.meaning.Meaning.{Meaning}
use Rattle.dps_scopes.specs.declared.meaning.Meaning.TheVariants.{Local as a_local, Name as a_name, Function as a_function, Process as a_process, Projection as a_projection, Unknown as unknown}
use Rattle.dps_scopes.specs.Outcome.{Outcome, done, and_then}
use Rattle.dps_scopes.specs.Scopes.{Locals, local_count, most_arguments, with_tuple, meaning}
use Rattle.dps_scopes.specs.Terms.{is_kind, count_inner, all_trees, applied, name_written, without_arguments, function_of, identifier_as, the_first, tuple_of, term, terms, identifier}
use Rattle.dps_names.specs.Program.{Written, Definition}
use Rattle.dps_names.specs.WellFormed.{IsWrittenLeaf, IsTermOver}
use Rattle.dps_names.proofs.SignatureGrowth.{HasTuples, kept_arity}
use Rattle.dps_names.proofs.Tupling.{IsTupled, tupled}
use Rattle.dps_names.proofs.OverGrownSignatures.{term_lasts}
use Rattle.dps_names.proofs.MeaningsThere.{Stands, meaning_stands}
use Rattle.dps_names.proofs.OutcomesOver.{Gives, gives_done, gives_later, gives_then, gives_if}

-- a term, and terms of which there are so many
abbrev pub OverLocals : ℕ → Signature → Written → Type 0
OverLocals n signature w = IsTermOver signature n w.tree

pub record AreOverLocals (n many : ℕ) (signature : Signature) (ws : List Written) : Type 0 where
  pub each : All (λ w. IsTermOver signature n w.tree) ws
  pub built : AreBuiltOf (IsWrittenLeaf signature n) (HasArity (shapes signature)) (trees (all_trees ws))
  pub counted : count (trees (all_trees ws)) ≡ many
  pub listed : length ws ≡ many

none_over : (n : ℕ) (s : Signature) → AreOverLocals n 0 s []
none_over n s = record { each = All-nil (λ (w : Written). IsTermOver s n w.tree); built = tt; counted = refl; listed = refl }

more_over : (n k : ℕ) (s : Signature) (w : Written) (ws : List Written) → IsTermOver s n w.tree → AreOverLocals n k s ws → AreOverLocals n (1 + k) s (w ∷ ws)
more_over n k s w ws h hs = record {
  each = All-cons (λ (w : Written). IsTermOver s n w.tree) w ws h hs.each;
  built = (h, hs.built);
  counted = omega (arith, hs.counted);
  listed = omega (arith, hs.listed);
}

-- a symbol over as many terms as its arity says
applied_over : (n k : ℕ) (s : Signature) (f : Sym) (ws : List Written) → HasArity (shapes s) f k → AreOverLocals n k s ws → IsTermOver s n (applied f ws).tree
applied_over n k s f ws h hs = (subst (HasArity (shapes s) f) (sym hs.counted) h, hs.built)

first_over : (n k : ℕ) (s : Signature) (ws : List Written) → AreOverLocals n k s ws → IsTermOver s n (the_first ws).tree
first_over n k s [] h = tt
first_over n k s (w ∷ ws) h = h.built.0

name_over : (s : Signature) (lexeme : Lexeme) (n k : ℕ) (is_private : Bool) → IsNameThere s is_private k → IsTermOver s n (name_written s lexeme k is_private).tree
name_over s lexeme n k true h = tt
name_over s lexeme n k false h = h

-- what reads arguments, wherever it begins
pub record ReadsArguments (n many : ℕ) (arguments : Signature → Outcome Signature (List Written)) : Type 0 where
  pub reads : (s : Signature) → HasTuples s → Gives s (AreOverLocals n many) (arguments s)

alone : (lexeme : Lexeme) (many n : ℕ) (s : Signature) (w : Written) → HasTuples s → IsTermOver s n w.tree → Gives s (OverLocals n) (without_arguments lexeme many s w)
alone lexeme zero n s w t h = gives_done s (OverLocals n) w t h
alone lexeme (suc many) n s w t h = record { holds = tt }

function_over :
    (lexeme : Lexeme) (b : Bool) (n many : ℕ) (s : Signature) (arguments : Outcome Signature (List Written)) (f : Sym)
    → Gives s (AreOverLocals n many) arguments → (b ≡ true → HasArity (shapes s) f many) → Gives s (OverLocals n) (function_of lexeme b arguments f)
function_over lexeme true n many s arguments f h k =
    gives_then s arguments _ (AreOverLocals n many) (OverLocals n) h
    (λ ws t g tuples hs. gives_done t (OverLocals n) (applied f ws) tuples (applied_over n many t f ws (kept_arity s t g f many (k refl)) hs))
function_over lexeme false n many s arguments f h k = record { holds = tt }

both : (a b : Bool) → (a && b) ≡ true → (a ≡ true) × (b ≡ true)
both true b e = (refl, e)
both false b e = cc

pub identified :
    (lexeme : Lexeme) (n many : ℕ) (arguments : Signature → Outcome Signature (List Written)) (s : Signature) (definitions : List Definition) (m : Meaning)
    → HasTuples s → ReadsArguments n many arguments → Stands s definitions n m → Gives s (OverLocals n) (identifier_as lexeme many arguments s m)
identified lexeme n many arguments s definitions (a_local i) t r h = alone lexeme many n s _ t h
identified lexeme n many arguments s definitions (a_name k is_private) t r h = alone lexeme many n s (name_written s lexeme k is_private) t (name_over s lexeme n k is_private h)
identified lexeme n many arguments s definitions (a_function f arity) t r h =
    function_over lexeme (many == arity && nat_le arity most_arguments) n many s (arguments s) f (r.reads s t)
    (λ e. subst (HasArity (shapes s) f) (sym (eqb-true many arity (both (many == arity) (nat_le arity most_arguments) e).0)) h)
identified lexeme n many arguments s definitions (a_process k parameters) t r h = record { holds = tt }
identified lexeme n many arguments s definitions (a_projection projection) t r h =
    let tuple = with_tuple s projection.length in
    let there = tupled s projection.length t in
    gives_later s tuple.signature (OverLocals n) (function_of lexeme (many == 1) (arguments tuple.signature) (record { number = tuple.symbol + projection.index })) there.grows
    (function_over lexeme (many == 1) n many tuple.signature (arguments tuple.signature) (record { number = tuple.symbol + projection.index }) (r.reads tuple.signature there.tuples)
    (λ e. subst (HasArity (shapes tuple.signature) (record { number = tuple.symbol + projection.index })) (sym (eqb-true many 1 e)) (there.takes projection.index h.first h.within)))
identified lexeme n many arguments s definitions unknown t r h = record { holds = tt }

bracketed :
    (n many : ℕ) (members : Signature → Outcome Signature (List Written)) (s : Signature) (lexeme : Lexeme) → HasTuples s
    → ReadsArguments n many members → Gives s (OverLocals n) (tuple_of many members s lexeme)
bracketed n many members s lexeme t r =
    gives_if s (nat_le many 1) _ _ (OverLocals n)
    (λ e. gives_then s (members s) _ (AreOverLocals n many) (OverLocals n) (r.reads s t)
    (λ ws after g tuples hs. gives_done after (OverLocals n) (the_first ws) tuples (first_over n many after ws hs)))
    (λ e. gives_if s (nat_le many most_arguments) _ _ (OverLocals n)
    (λ f. tupled_over (with_tuple s many).signature (with_tuple s many).symbol (tupled s many t))
    (λ f. record { holds = tt }))
  where
    tupled_over : (u : Signature) (symbol : ℕ) → IsTupled s many symbol u → Gives s (OverLocals n) (and_then (members u) (λ ws after. done (applied (record { number = symbol }) ws) after))
    tupled_over u symbol there =
        gives_later s u (OverLocals n) _ there.grows
        (gives_then u (members u) _ (AreOverLocals n many) (OverLocals n) (r.reads u there.tuples)
        (λ ws after g tuples hs. gives_done after (OverLocals n) (applied (record { number = symbol }) ws) tuples
        (applied_over n many after (record { number = symbol }) ws (kept_arity u after g (record { number = symbol }) many there.builds) hs)))

module _ (definitions : List Definition) (scope : Locals) where
  mutual
    pub term_over : (parts : Parts) (s : Signature) → HasTuples s → Gives s (OverLocals (local_count scope)) (term definitions scope parts s)
    term_over none s t = gives_done s (OverLocals (local_count scope)) _ t tt
    term_over (inner p inside parts) s t = term_over inside s t
    term_over (token lexeme parts) s t =
        gives_if s (is_kind kinds.Identifier lexeme) _ _ (OverLocals (local_count scope))
        (λ e. identified lexeme (local_count scope) (count_inner parts) (terms definitions scope parts) s definitions (meaning s definitions scope lexeme.text) t
        (record { reads = λ u h. terms_over parts u h }) (meaning_stands s definitions scope lexeme.text))
        (λ e. bracketed (local_count scope) (count_inner parts) (terms definitions scope parts) s lexeme t (record { reads = λ u h. terms_over parts u h }))

    pub terms_over : (parts : Parts) (s : Signature) → HasTuples s → Gives s (AreOverLocals (local_count scope) (count_inner parts)) (terms definitions scope parts s)
    terms_over none s t = gives_done s (AreOverLocals (local_count scope) 0) [] t (none_over (local_count scope) s)
    terms_over (token lexeme parts) s t = terms_over parts s t
    terms_over (inner p inside parts) s t =
        gives_then s (term definitions scope inside s) _ (OverLocals (local_count scope)) (AreOverLocals (local_count scope) (1 + count_inner parts)) (term_over inside s t) (λ w u g tuples h.
        gives_then u (terms definitions scope parts u) _ (AreOverLocals (local_count scope) (count_inner parts)) (AreOverLocals (local_count scope) (1 + count_inner parts))
        (terms_over parts u tuples) (λ ws last g2 tuples2 hs.
        gives_done last (AreOverLocals (local_count scope) (1 + count_inner parts)) (w ∷ ws) tuples2
        (more_over (local_count scope) (count_inner parts) last w ws (term_lasts u last (local_count scope) (local_count scope) g2 (omega arith) w.tree h) hs)))

  -- an identifier alone
  pub identifier_over : (lexeme : Lexeme) (s : Signature) → HasTuples s → Gives s (OverLocals (local_count scope)) (identifier definitions scope lexeme s)
  identifier_over lexeme s t =
      identified lexeme (local_count scope) 0 (λ after. done [] after) s definitions (meaning s definitions scope lexeme.text) t
      (record { reads = λ u h. gives_done u (AreOverLocals (local_count scope) 0) [] h (none_over (local_count scope) u) })
      (meaning_stands s definitions scope lexeme.text)
