-- A rule of a file: both sides are over the signature behind it, and its root is no projection.
use Rattle.std.proofs.Common.{◌≡◌, ◌≤◌, ◌<◌, ℕ, zero, suc, ◌-◌, Bool, true, false, ◌&&◌, ◌||◌, List, [], ◌∷◌, ◌++◌, Some, refl, sym, ◌∙◌, subst, length, take, arith, unwrap_or}
use Rattle.std.specs.Prelude.{slice_get, nat_le, ◌==◌, All}
use Rattle.std.proofs.lemmas.Bool.{eqb-true}
use Rattle.std.proofs.lemmas.List.{length-take-le}
use Rattle.std.proofs.lemmas.List.Elements.{All-nil, All-cons}
use Rattle.dps_terms.specs.declared.Sym.{Sym}
use Rattle.dps_signature.specs.declared.SymKind.TheVariants.{Destructor}
use Rattle.dps_terms.specs.Tree.{Leaf, var, Tree, leaf, app, trees, count}
use Rattle.dps_signature.specs.Signature.{Symbol, Signature, HasArity, shapes}
use Rattle.dps_signature.specs.Names.{with_symbol}
use Rattle.dps_terms.specs.Kinds.{IsBuiltOf, AreBuiltOf}
use Rattle.dps_terms.proofs.Arguments.{count-trees}
use Rattle.dps_theory.specs.Theory.{Rule}
use Rattle.dps_syntax.specs.Tree.{Lexeme, Parts, none, token, inner, lexemes}
use Rattle.dps_scopes.specs.declared.meaning.Meaning.{Meaning}
use Rattle.dps_scopes.specs.declared.meaning.Meaning.TheVariants.{Local as a_local, Name as a_name, Function as a_function, Process as a_process, Projection as a_projection, Unknown as unknown}
use Rattle.dps_scopes.specs.Outcome.{Outcome, done, faulty}
use Rattle.dps_scopes.specs.Scopes.{most_arguments, is_reserved, begins_as_projection, declared_meaning}
use Rattle.dps_scopes.specs.Terms.{count_inner}
use Rattle.dps_scopes.specs.RuleTerms.{InRule, rule_terms}
use Rattle.dps_names.specs.Program.{Definition, WrittenRule}
use Rattle.dps_names.specs.Rules.{sides_of, rule, declared_root, root_as}
use Rattle.dps_names.proofs.SignatureGrowth.{Grows, HasTuples, grows_refl, grows_trans, grows_symbol, tuples_symbol, kept_symbol, kept_arity, shape_at}
use Rattle.dps_names.proofs.OutcomesOver.{Gives}
use Rattle.dps_names.proofs.Outcomes.{OnDone, on_then, on_if}
use Rattle.dps_names.proofs.RuleTerms.{IsLeafOfRule, IsRuleTerm, AreRuleTerms, IsFreeSymbol, MeansThere, ReadsInRule, term_stays, declared_there, rule_terms_read}

abbrev pub HasFreeRoot : Signature → Tree → Type 0
HasFreeRoot s (leaf x) = Unit {0}
HasFreeRoot s (app f ts) = IsFreeSymbol s f

pub record IsRuleOfFile (m : ℕ) (s : Signature) (r : Rule) : Type 0 where
  pub left : IsRuleTerm m s r.left
  pub right : IsRuleTerm m s r.right
  pub root : HasFreeRoot s r.left

symbol_stays : (s a : Signature) → Grows s a → (f : Sym) → IsFreeSymbol s f → IsFreeSymbol a f
symbol_stays s a g f h = record { symbol = h.symbol; at = kept_symbol s a g f.number h.symbol h.at; free = h.free }

root_stays : (s a : Signature) → Grows s a → (t : Tree) → HasFreeRoot s t → HasFreeRoot a t
root_stays s a g (leaf x) h = tt
root_stays s a g (app f ts) h = symbol_stays s a g f h

pub rule_stays : (m : ℕ) (s a : Signature) → Grows s a → (r : Rule) → IsRuleOfFile m s r → IsRuleOfFile m a r
rule_stays m s a g r h = record {
  left = term_stays m s a g r.left h.left;
  right = term_stays m s a g r.right h.right;
  root = root_stays s a g r.left h.root;
}

-- the root, which takes so many arguments

pub record IsRoot (many : ℕ) (start : Signature) (f : Sym) (after : Signature) : Type 0 where
  pub grows : Grows start after
  pub tuples : HasTuples after
  pub arity : HasArity (shapes after) f many
  pub free : IsFreeSymbol after f

or_left : (a b : Bool) → a || b ≡ false → a ≡ false
or_left true b e = cc
or_left false b e = refl

and_left : (a b : Bool) → a && b ≡ true → a ≡ true
and_left true b e = refl
and_left false b e = cc

last_at : {X : Type 0} (xs : List X) (x : X) → slice_get (xs ++ x ∷ []) (length xs) ≡ Some x
last_at [] x = refl
last_at (y ∷ xs) x = last_at xs x

declared_read : (lexeme : Lexeme) (many : ℕ) (s : Signature) → HasTuples s → OnDone (declared_root lexeme many s) (IsRoot many s)
declared_read lexeme many s h =
    on_if (is_reserved lexeme.text) _ _ (IsRoot many s) (λ e. record { holds = tt })
    (λ free. on_if (nat_le many most_arguments) _ _ (IsRoot many s)
    (λ few.
    let new : Symbol = record { name = lexeme.text; kind = Destructor; arity = many } in
    let at = last_at s.symbols new in
    record {
      holds = record {
        grows = grows_symbol s new;
        tuples = tuples_symbol s new free h;
        arity = (Destructor, shape_at (with_symbol s new) (length s.symbols) new at);
        free = record { symbol = new; at = at; free = or_left (begins_as_projection lexeme.text) _ free };
      };
    })
    (λ e. record { holds = tt }))

-- the sides

taken_built : (L : Leaf → Type 0) (S : Sym → ℕ → Type 0) (n : ℕ) (ts : List Tree) → AreBuiltOf L S (trees ts) → AreBuiltOf L S (trees (take n ts))
taken_built L S zero ts h = tt
taken_built L S (suc n) [] h = tt
taken_built L S (suc n) (t ∷ ts) h = (h.0, taken_built L S n ts h.1)

one_built : (L : Leaf → Type 0) (S : Sym → ℕ → Type 0) (n : ℕ) (ts : List Tree) (d : Tree) → AreBuiltOf L S (trees ts) → IsBuiltOf L S d → IsBuiltOf L S (unwrap_or (slice_get ts n) d)
one_built L S n [] d h k = k
one_built L S zero (t ∷ ts) d h k = h.0
one_built L S (suc n) (t ∷ ts) d h k = one_built L S n ts d h.1 k

pub record AreSides (m : ℕ) (start : Signature) (w : WrittenRule) (after : Signature) : Type 0 where
  pub grows : Grows start after
  pub tuples : HasTuples after
  pub rule : IsRuleOfFile m after w.rule

pub record ReadsRules (many m : ℕ) (start : Signature) (rs : List WrittenRule) (after : Signature) : Type 0 where
  pub grows : Grows start after
  pub tuples : HasTuples after
  pub few : length rs ≤ many
  pub rules : All (λ w. IsRuleOfFile m after w.rule) rs

no_rules : (many m : ℕ) (s : Signature) → HasTuples s → OnDone (done [] s) (ReadsRules many m s)
no_rules many m s h = record { holds = record { grows = grows_refl s; tuples = h; few = omega arith; rules = All-nil (λ (w : WrittenRule). IsRuleOfFile m s w.rule) } }

gives_rules : (many m : ℕ) (s : Signature) (o : Outcome Signature (List WrittenRule)) → OnDone o (ReadsRules many m s) → Gives s (λ t rs. Unit {0}) o
gives_rules many m s (done rs t) h = record { holds = record { grows = h.holds.grows; tuples = h.holds.tuples; value = tt } }
gives_rules many m s (faulty fault) h = record { holds = tt }

module _ (definitions : List Definition) where
  root_read : (lexeme : Lexeme) (many : ℕ) (s : Signature) (meaning : Meaning) → HasTuples s → MeansThere s meaning → OnDone (root_as lexeme many s meaning) (IsRoot many s)
  root_read lexeme many s (a_function f arity) h there =
      on_if (many == arity && nat_le many most_arguments) _ _ (IsRoot many s)
      (λ e.
      let same : many ≡ arity = eqb-true many arity (and_left (many == arity) _ e) in
      record { holds = record { grows = grows_refl s; tuples = h; arity = subst (λ n. HasArity (shapes s) f n) (sym same) there.0; free = there.1 } })
      (λ e. record { holds = tt })
  root_read lexeme many s (a_name n is_private) h there = record { holds = tt }
  root_read lexeme many s (a_process n parameters) h there = record { holds = tt }
  root_read lexeme many s (a_local n) h there = declared_read lexeme many s h
  root_read lexeme many s (a_projection projection) h there = declared_read lexeme many s h
  root_read lexeme many s unknown h there = declared_read lexeme many s h

  sides_read :
      (m k many total : ℕ) (lexeme : Lexeme) (f : Sym) (start : Signature) (state : InRule) (o : Outcome InRule (List Tree)) → 0 < m → many ≤ total
      → IsRoot many start f state.signature → OnDone o (ReadsInRule k (AreRuleTerms m total) state)
      → OnDone (sides_of definitions lexeme f many o) (AreSides m start)
  sides_read m k many total lexeme f start state (faulty fault) some fit root h = record { holds = tt }
  sides_read m k many total lexeme f start state (done ts last) some fit root h =
      let r = h.holds in
      let long : many ≤ length ts = omega (arith, r.value.counted) in
      let counted : count (trees (take many ts)) ≡ many = count-trees (take many ts) ∙ length-take-le many ts long in
      record {
        holds = record {
          grows = grows_trans start state.signature last.signature root.grows r.grows;
          tuples = r.tuples;
          rule = record {
            left = (
              subst (λ n. HasArity (shapes last.signature) f n) (sym counted) (kept_arity state.signature last.signature r.grows f many root.arity),
              taken_built
                  (IsLeafOfRule last.signature m) (HasArity (shapes last.signature)) many ts r.value.built,
            );
            right = one_built (IsLeafOfRule last.signature m) (HasArity (shapes last.signature)) many ts (leaf (var 0)) r.value.built some;
            root = symbol_stays state.signature last.signature r.grows f root.free;
          };
        };
      }

  pub rule_read : (m : ℕ) (parts : Parts) (s : Signature) → HasTuples s → length (lexemes parts) < m → OnDone (rule definitions parts s) (ReadsRules (length (lexemes parts)) m s)
  rule_read m none s h few = no_rules 0 m s h
  rule_read m (inner p inside parts) s h few = no_rules (length (lexemes (inner p inside parts))) m s h
  rule_read m (token lexeme parts) s h few =
      let many = count_inner parts - 1 in
      on_then (root_as lexeme many s (declared_meaning s definitions lexeme.text)) _ (IsRoot many s) (ReadsRules (length (lexemes (token lexeme parts))) m s)
      (root_read lexeme many s (declared_meaning s definitions lexeme.text) h (declared_there s definitions lexeme.text))
      (λ f after root.
      let state : InRule = record { signature = after; variables = [] } in
      on_then (sides_of definitions lexeme f many (rule_terms definitions parts state)) _ (AreSides m s) (ReadsRules (length (lexemes (token lexeme parts))) m s)
      (sides_read m (length (lexemes parts)) many (count_inner parts) lexeme f s state (rule_terms definitions parts state) (omega arith) (omega arith) root
      (rule_terms_read m definitions parts state root.tuples (omega arith)))
      (λ w last q. record {
        holds = record {
          grows = q.grows;
          tuples = q.tuples;
          few = omega arith;
          rules = All-cons (λ (w : WrittenRule). IsRuleOfFile m last w.rule) w [] q.rule (All-nil (λ (w : WrittenRule). IsRuleOfFile m last w.rule));
        };
      }))

  -- a rule keeps what is declared, however long it is
  pub rule_keeps : (parts : Parts) (s : Signature) → HasTuples s → Gives s (λ t rs. Unit {0}) (rule definitions parts s)
  rule_keeps parts s h =
      gives_rules (length (lexemes parts)) (suc (length (lexemes parts))) s (rule definitions parts s) (rule_read (suc (length (lexemes parts))) parts s h (omega arith))
