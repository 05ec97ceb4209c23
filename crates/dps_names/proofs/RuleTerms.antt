-- The terms of rules are over the signature behind them, and hold declared public names and few variables.
use Rattle.std.proofs.Common.{◌≡◌, ◌≤◌, ◌<◌, ℕ, zero, suc, ◌+◌, Bool, true, false, ◌&&◌, if◌then◌else◌, List, [], ◌∷◌, ◌++◌, Option, Some, None, refl, sym, ap, ◌∙◌}
use Rattle.std.proofs.Common.{subst, length, arith, length-append, unwrap_or, is_some, bytes_eq, position}
use Rattle.std.specs.Prelude.{slice_get, nat_le, ◌==◌}
use Rattle.std.proofs.lemmas.Bool.{eqb-true}
use Rattle.std.proofs.lemmas.List.Quantifiers.{position-Some}
use Rattle.dps_lex.specs.declared.vocabulary.TokenKind.TheVariants as kinds
use Rattle.dps_terms.specs.declared.Sym.{Sym}
use Rattle.dps_terms.specs.declared.PublicName.TheVariants.{Declared, At}
use Rattle.dps_terms.specs.Tree.{Leaf, public, private, var, ax, entry, rigid, Tree, leaf, app, trees}
use Rattle.dps_signature.specs.Signature.{Symbol, Signature, HasArity, IsNameThere, shapes}
use Rattle.dps_signature.specs.Names.{symbol_named, name_named}
use Rattle.dps_terms.specs.Kinds.{IsBuiltOf, AreBuiltOf, AnySymbol}
use Rattle.dps_signature.specs.Kinds.{IsOver, IsLeafOver, IsSourceName}
use Rattle.dps_terms.proofs.Arguments.{count-trees}
use Rattle.dps_theory.specs.Theory.{IsRuleLeaf}
use Rattle.dps_syntax.specs.Tree.{Lexeme, Parts, none, token, inner, lexemes}
use Rattle.dps_scopes.specs.declared.meaning.Meaning.{Meaning}
use Rattle.dps_scopes.specs.declared.meaning.Meaning.TheVariants.{Local as a_local, Name as a_name, Function as a_function, Process as a_process, Projection as a_projection, Unknown as unknown}
use Rattle.dps_scopes.specs.Outcome.{Outcome, done, and_then}
use Rattle.dps_scopes.specs.Scopes.{most_arguments, begins_as_projection, with_tuple, declared_meaning, function_or_named, named, defined}
use Rattle.dps_scopes.specs.Terms.{is_kind, count_inner}
use Rattle.dps_scopes.specs.RuleTerms.{InRule, variable, variable_or_unknown, public_name, function_in_rule, identifier_in_rule, first_tree, with_signature}
use Rattle.dps_scopes.specs.RuleTerms.{tuple_in_rule, has_more, rule_term, rule_terms}
use Rattle.dps_names.specs.Program.{Definition}
use Rattle.dps_names.proofs.SignatureGrowth.{Grows, HasTuples, grows_refl, grows_trans, grows_tuple, tuples_tuple, tuple_arity, kept_arity, kept_there, built_wider}
use Rattle.dps_names.proofs.SignatureGrowth.{symbol_found, function_arity, name_there}
use Rattle.dps_names.proofs.Outcomes.{OnDone, on_then, on_if, on_weaker}

-- a declared public name, or one of the first m variables
abbrev pub IsLeafOfRule : Signature → ℕ → Leaf → Type 0
IsLeafOfRule s m (public a) = IsSourceName s a
IsLeafOfRule s m (var n) = n < m
IsLeafOfRule s m (private n) = ⊥
IsLeafOfRule s m (ax n) = ⊥
IsLeafOfRule s m (entry n) = ⊥
IsLeafOfRule s m (rigid n) = ⊥

abbrev pub IsRuleTerm : ℕ → Signature → Tree → Type 0
IsRuleTerm m s t = IsBuiltOf (IsLeafOfRule s m) (HasArity (shapes s)) t

-- so many terms
pub record AreRuleTerms (m many : ℕ) (s : Signature) (ts : List Tree) : Type 0 where
  pub built : AreBuiltOf (IsLeafOfRule s m) (HasArity (shapes s)) (trees ts)
  pub counted : length ts ≡ many

leaf_stays : (m : ℕ) (s a : Signature) → Grows s a → (x : Leaf) → IsLeafOfRule s m x → IsLeafOfRule a m x
leaf_stays m s a g (public (Declared n)) h = kept_there s a g false n h
leaf_stays m s a g (public (At k)) h = absurd h
leaf_stays m s a g (var n) h = h
leaf_stays m s a g (private n) h = absurd h
leaf_stays m s a g (ax n) h = absurd h
leaf_stays m s a g (entry n) h = absurd h
leaf_stays m s a g (rigid n) h = absurd h

pub term_stays : (m : ℕ) (s a : Signature) → Grows s a → (t : Tree) → IsRuleTerm m s t → IsRuleTerm m a t
term_stays m s a g t h = built_wider (IsLeafOfRule s m) (IsLeafOfRule a m) (HasArity (shapes s)) (HasArity (shapes a)) (leaf_stays m s a g) (kept_arity s a g) t h

leaf_over : (m : ℕ) (s : Signature) (x : Leaf) → IsLeafOfRule s m x → IsLeafOver s x
leaf_over m s (public (Declared n)) h = h
leaf_over m s (public (At k)) h = absurd h
leaf_over m s (var n) h = tt
leaf_over m s (private n) h = absurd h
leaf_over m s (ax n) h = absurd h
leaf_over m s (entry n) h = absurd h
leaf_over m s (rigid n) h = absurd h

pub term_over : (m : ℕ) (s : Signature) (t : Tree) → IsRuleTerm m s t → IsOver s t
term_over m s t h = built_wider (IsLeafOfRule s m) (IsLeafOver s) (HasArity (shapes s)) (HasArity (shapes s)) (leaf_over m s) (λ f n k. k) t h

leaf_plain : (m : ℕ) (s : Signature) (x : Leaf) → IsLeafOfRule s m x → IsRuleLeaf x
leaf_plain m s (public (Declared n)) h = tt
leaf_plain m s (public (At k)) h = absurd h
leaf_plain m s (var n) h = tt
leaf_plain m s (private n) h = absurd h
leaf_plain m s (ax n) h = absurd h
leaf_plain m s (entry n) h = absurd h
leaf_plain m s (rigid n) h = absurd h

pub term_plain : (m : ℕ) (s : Signature) (t : Tree) → IsRuleTerm m s t → IsBuiltOf IsRuleLeaf AnySymbol t
term_plain m s t h = built_wider (IsLeafOfRule s m) IsRuleLeaf (HasArity (shapes s)) AnySymbol (leaf_plain m s) (λ f n k. tt) t h

-- what a declared text means there

-- the symbol is there, and is no projection
pub record IsFreeSymbol (s : Signature) (f : Sym) : Type 0 where
  pub symbol : Symbol
  pub at : slice_get s.symbols f.number ≡ Some symbol
  pub free : begins_as_projection symbol.name ≡ false

abbrev pub MeansThere : Signature → Meaning → Type 0
MeansThere s (a_name n is_private) = IsNameThere s is_private n
MeansThere s (a_function f arity) = HasArity (shapes s) f arity × IsFreeSymbol s f
MeansThere s (a_local n) = Unit {0}
MeansThere s (a_process n parameters) = Unit {0}
MeansThere s (a_projection projection) = Unit {0}
MeansThere s unknown = Unit {0}

defined_there : (s : Signature) (definitions : List Definition) (o : Option ℕ) → MeansThere s (defined definitions o)
defined_there s definitions (Some n) = tt
defined_there s definitions None = tt

named_there : (s : Signature) (definitions : List Definition) (text : List ℕ) (o : Option ℕ) → name_named s text ≡ o → MeansThere s (named s definitions text o)
named_there s definitions text (Some n) e = name_there s text n e
named_there s definitions text None e = defined_there s definitions (position (λ d. bytes_eq text d.name) definitions)

function_there :
    (s : Signature) (definitions : List Definition) (text : List ℕ) (o : Option ℕ) → symbol_named s text ≡ o → begins_as_projection text ≡ false
    → MeansThere s (function_or_named s definitions text o)
function_there s definitions text (Some f) e free =
    let h = symbol_found s text f e in
    (function_arity s text f e, record { symbol = h.0; at = h.1; free = ap begins_as_projection (sym h.2) ∙ free })
function_there s definitions text None e free = named_there s definitions text (name_named s text) refl

pub declared_there : (s : Signature) (definitions : List Definition) (text : List ℕ) → MeansThere s (declared_meaning s definitions text)
declared_there s definitions text =
    go (begins_as_projection text) (function_or_named s definitions text (symbol_named s text)) (λ free. function_there s definitions text (symbol_named s text) refl free)
  where
    go : (b : Bool) (m : Meaning) → (b ≡ false → MeansThere s m) → MeansThere s (if b then unknown else m)
    go true m h = tt
    go false m h = h refl

-- what is read in a rule: the signature grew, and there are at most so many more variables
pub record ReadsInRule {A : Type 0} (many : ℕ) (P : Signature → A → Type 0) (start : InRule) (a : A) (after : InRule) : Type 0 where
  pub grows : Grows start.signature after.signature
  pub tuples : HasTuples after.signature
  pub few : length after.variables ≤ length start.variables + many
  pub value : P after.signature a

read_here : {A : Type 0} (many : ℕ) (P : Signature → A → Type 0) (start : InRule) (a : A) → HasTuples start.signature → P start.signature a → OnDone (done a start) (ReadsInRule many P start)
read_here many P start a h v = record { holds = record { grows = grows_refl start.signature; tuples = h; few = omega arith; value = v } }

-- what is read behind something else
read_later :
    {A : Type 0} (j k many : ℕ) (P : Signature → A → Type 0) (start next : InRule) (o : Outcome InRule A) → Grows start.signature next.signature
    → length next.variables ≤ length start.variables + j → j + k ≤ many → OnDone o (ReadsInRule k P next) → OnDone o (ReadsInRule many P start)
read_later j k many P start next o g few fit h =
    on_weaker o (ReadsInRule k P next) (ReadsInRule many P start) (λ a s r. let later = r.few in record {
      grows = grows_trans start.signature next.signature s.signature g r.grows;
      tuples = r.tuples;
      few = omega arith;
      value = r.value;
    }) h

module _ (m : ℕ) where
  number_small : (texts : List (List ℕ)) (text : List ℕ) (o : Option ℕ) → position (bytes_eq text) texts ≡ o → length texts < m → unwrap_or o (length texts) < m
  number_small texts text (Some i) e few = let h = (position-Some (bytes_eq text) texts i [] e).0 in omega (arith, h)
  number_small texts text None e few = few

  variables_few : (texts : List (List ℕ)) (text : List ℕ) (b : Bool) → length (if b then texts else texts ++ text ∷ []) ≤ length texts + 1
  variables_few texts text true = omega arith
  variables_few texts text false = omega (arith, length-append texts (text ∷ []))

  variable_read : (many : ℕ) (state : InRule) (text : List ℕ) → 1 ≤ many → HasTuples state.signature → length state.variables < m → OnDone (variable state text) (ReadsInRule many (IsRuleTerm m) state)
  variable_read many state text some h few =
      let one = variables_few state.variables text (is_some (position (bytes_eq text) state.variables)) in
      record {
        holds = record {
          grows = grows_refl state.signature;
          tuples = h;
          few = omega arith;
          value = number_small state.variables text (position (bytes_eq text) state.variables) refl few;
        };
      }

  -- what reads so many arguments
  pub record ReadsArguments (k many : ℕ) (arguments : InRule → Outcome InRule (List Tree)) : Type 0 where
    pub reads : (t : InRule) → HasTuples t.signature → length t.variables + k < m → OnDone (arguments t) (ReadsInRule k (AreRuleTerms m many) t)

  applied_term : (s : Signature) (f : Sym) (many : ℕ) (ts : List Tree) → HasArity (shapes s) f many → AreRuleTerms m many s ts → IsRuleTerm m s (app f (trees ts))
  applied_term s f many ts a h = (subst (λ n. HasArity (shapes s) f n) (sym (count-trees ts ∙ h.counted)) a, h.built)

  module _ (lexeme : Lexeme) (k many number : ℕ) (arguments : InRule → Outcome InRule (List Tree)) (state : InRule) (reads : ReadsArguments k number arguments) (h : HasTuples state.signature)
      (fit : 1 + k ≤ many) (few : length state.variables + many < m) where
    bare_read : (b : Bool) → OnDone (variable_or_unknown lexeme b state) (ReadsInRule many (IsRuleTerm m) state)
    bare_read true = record { holds = tt }
    bare_read false = variable_read many state lexeme.text (omega arith) h (omega arith)

    name_read : (n places : ℕ) (is_private : Bool) → IsNameThere state.signature is_private n → OnDone (public_name lexeme places is_private n state) (ReadsInRule many (IsRuleTerm m) state)
    name_read n (suc places) is_private there = record { holds = tt }
    name_read n zero true there = record { holds = tt }
    name_read n zero false there = read_here many (IsRuleTerm m) state (leaf (public (Declared n))) h there

    function_read :
        (f : Sym) (arity : ℕ) (b : Bool) → (number == arity && b) ≡ true → HasArity (shapes state.signature) f arity
        → OnDone (and_then (arguments state) (λ ts after. done (app f (trees ts)) after)) (ReadsInRule many (IsRuleTerm m) state)
    function_read f arity b e there =
        let same : number ≡ arity = eqb-true number arity (first (number == arity) b e) in
        on_then (arguments state) _ (ReadsInRule k (AreRuleTerms m number) state) (ReadsInRule many (IsRuleTerm m) state)
        (reads.reads state h (omega arith))
        (λ ts after r.
        let later = r.few in
        record {
          holds = record {
            grows = r.grows;
            tuples = r.tuples;
            few = omega arith;
            value =
                applied_term after.signature f number ts (kept_arity state.signature after.signature r.grows f number (subst (λ n. HasArity (shapes state.signature) f n) (sym same) there)) r.value;
          };
        })
      where
        first : (a c : Bool) → a && c ≡ true → a ≡ true
        first true c d = refl
        first false c d = cc

    called_read :
        (f : Sym) (arity : ℕ) (b : Bool) → (number == arity && nat_le arity most_arguments) ≡ b → HasArity (shapes state.signature) f arity
        → OnDone (function_in_rule lexeme b (arguments state) f) (ReadsInRule many (IsRuleTerm m) state)
    called_read f arity true e there = function_read f arity (nat_le arity most_arguments) e there
    called_read f arity false e there = record { holds = tt }

    identifier_read :
        (has_brackets : Bool) (meaning : Meaning) → MeansThere state.signature meaning
        → OnDone (identifier_in_rule lexeme has_brackets number arguments state meaning) (ReadsInRule many (IsRuleTerm m) state)
    identifier_read b (a_name n is_private) there = name_read n number is_private there
    identifier_read b (a_function f arity) there = called_read f arity (number == arity && nat_le arity most_arguments) refl there.0
    identifier_read b (a_process n parameters) there = record { holds = tt }
    identifier_read b (a_local n) there = bare_read b
    identifier_read b (a_projection projection) there = bare_read b
    identifier_read b unknown there = bare_read b

    first_read : (s : Signature) (ts : List Tree) → AreRuleTerms m number s ts → IsRuleTerm m s (first_tree ts)
    first_read s [] r = omega arith
    first_read s (t ∷ ts) r = r.built.0

    tuple_read : OnDone (tuple_in_rule number arguments state lexeme) (ReadsInRule many (IsRuleTerm m) state)
    tuple_read =
        on_if (nat_le number 1) _ _ (ReadsInRule many (IsRuleTerm m) state)
        (λ e. on_then (arguments state) _ (ReadsInRule k (AreRuleTerms m number) state) (ReadsInRule many (IsRuleTerm m) state)
        (reads.reads state h (omega arith))
        (λ ts after r. let later = r.few in record { holds = record { grows = r.grows; tuples = r.tuples; few = omega arith; value = first_read after.signature ts r.value } }))
        (λ e. on_if (nat_le number most_arguments) _ _ (ReadsInRule many (IsRuleTerm m) state) (λ d. built) (λ d. record { holds = tt }))
      where
        built : OnDone (and_then (arguments (with_signature state (with_tuple state.signature number).signature))
            (λ ts after. done (app (record { number = (with_tuple state.signature number).symbol }) (trees ts)) after)) (ReadsInRule many (IsRuleTerm m) state)
        built =
            let next = with_signature state (with_tuple state.signature number).signature in
            let g = grows_tuple state.signature number in
            on_then (arguments next) _ (ReadsInRule k (AreRuleTerms m number) next) (ReadsInRule many (IsRuleTerm m) state)
            (reads.reads next (tuples_tuple state.signature number h) (omega arith))
            (λ ts after r.
            let later = r.few in
            record {
              holds = record {
                grows = grows_trans state.signature next.signature after.signature g r.grows;
                tuples = r.tuples;
                few = omega arith;
                value =
                    applied_term
                    after.signature
                    (record { number = (with_tuple state.signature number).symbol })
                    number
                    ts
                    (kept_arity next.signature after.signature r.grows (record { number = (with_tuple state.signature number).symbol }) number (tuple_arity state.signature number h))
                    r.value;
              };
            })

  no_terms : (s : Signature) → AreRuleTerms m 0 s []
  no_terms s = record { built = tt; counted = refl }

  more_terms : (many : ℕ) (s : Signature) (t : Tree) (ts : List Tree) → IsRuleTerm m s t → AreRuleTerms m many s ts → AreRuleTerms m (1 + many) s (t ∷ ts)
  more_terms many s t ts h hs = record { built = (h, hs.built); counted = omega (arith, hs.counted) }

  module _ (definitions : List Definition) where
    mutual
      pub rule_term_read :
          (parts : Parts) (state : InRule) → HasTuples state.signature → length state.variables + length (lexemes parts) < m
          → OnDone (rule_term definitions parts state) (ReadsInRule (length (lexemes parts)) (IsRuleTerm m) state)
      rule_term_read none state h few = read_here 0 (IsRuleTerm m) state (leaf (var 0)) h (omega arith)
      rule_term_read (inner p inside parts) state h few =
          let all = length-append (lexemes inside) (lexemes parts) in
          read_later 0 (length (lexemes inside)) (length (lexemes (inner p inside parts))) (IsRuleTerm m) state state (rule_term definitions inside state) (grows_refl state.signature)
          (omega arith) (omega arith) (rule_term_read inside state h (omega arith))
      rule_term_read (token lexeme parts) state h few =
          let arguments : ReadsArguments (length (lexemes parts)) (count_inner parts) (rule_terms definitions parts) = record { reads = λ t k l. rule_terms_read parts t k l } in
          on_if (is_kind kinds.Identifier lexeme) _ _ (ReadsInRule (length (lexemes (token lexeme parts))) (IsRuleTerm m) state)
          (λ e. identifier_read lexeme (length (lexemes parts)) (length (lexemes (token lexeme parts))) (count_inner parts) (rule_terms definitions parts) state arguments h (omega arith) few
          (has_more parts) (declared_meaning state.signature definitions lexeme.text) (declared_there state.signature definitions lexeme.text))
          (λ e. tuple_read lexeme (length (lexemes parts)) (length (lexemes (token lexeme parts))) (count_inner parts) (rule_terms definitions parts) state arguments h (omega arith) few)

      pub rule_terms_read :
          (parts : Parts) (state : InRule) → HasTuples state.signature → length state.variables + length (lexemes parts) < m
          → OnDone (rule_terms definitions parts state) (ReadsInRule (length (lexemes parts)) (AreRuleTerms m (count_inner parts)) state)
      rule_terms_read none state h few = read_here 0 (AreRuleTerms m 0) state [] h (no_terms state.signature)
      rule_terms_read (token lexeme parts) state h few =
          read_later 0 (length (lexemes parts)) (length (lexemes (token lexeme parts))) (AreRuleTerms m (count_inner parts)) state state (rule_terms definitions parts state)
          (grows_refl state.signature) (omega arith) (omega arith) (rule_terms_read parts state h (omega arith))
      rule_terms_read (inner p inside parts) state h few =
          let all = length-append (lexemes inside) (lexemes parts) in
          on_then (rule_term definitions inside state) _ (ReadsInRule (length (lexemes inside)) (IsRuleTerm m) state)
          (ReadsInRule (length (lexemes (inner p inside parts))) (AreRuleTerms m (count_inner (inner p inside parts))) state)
          (rule_term_read inside state h (omega arith))
          (λ t after r.
          let one = r.few in
          on_then (rule_terms definitions parts after) _ (ReadsInRule (length (lexemes parts)) (AreRuleTerms m (count_inner parts)) after)
          (ReadsInRule (length (lexemes (inner p inside parts))) (AreRuleTerms m (count_inner (inner p inside parts))) state)
          (rule_terms_read parts after r.tuples (omega arith))
          (λ ts last q.
          let two = q.few in
          record {
            holds = record {
              grows = grows_trans state.signature after.signature last.signature r.grows q.grows;
              tuples = q.tuples;
              few = omega arith;
              value = more_terms (count_inner parts) last.signature t ts (term_stays m after.signature last.signature q.grows t r.value) q.value;
            };
          }))
