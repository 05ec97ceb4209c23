-- Names looked up in terms and processes where nothing is used that is not judged yet: the signature stays, and the
-- processes are of `0`, `|`, copies, `new`, outputs and calls.
use Rattle.std.proofs.Common.{◌≡◌, ℕ, zero, suc, ◌+◌, Bool, true, false, ◌&&◌, ◌||◌, if◌then◌else◌, leb, List, [], ◌∷◌, Option, Some, None, refl, sym, ap, subst, ◌∙◌, inl, inr}
use denote.Enum.Bare.{sameb}
use Rattle.dps_lex.specs.contracts.vocabulary.TokenKind.{the_type as kinds}
use Rattle.dps_lex.specs.declared.vocabulary.TokenKind.TheVariants as kind
use Rattle.dps_signature.specs.Signature.{Signature}
use Rattle.dps_syntax.specs.declared.grammar.Word.{Word}
use Rattle.dps_syntax.specs.declared.grammar.Production.{Production}
use Rattle.dps_syntax.specs.declared.grammar.Production.TheVariants as production
use Rattle.dps_syntax.specs.declared.grammar.More.TheVariants as more
use Rattle.dps_syntax.specs.declared.grammar.Symbol.TheVariants.{Inner, More}
use Rattle.dps_syntax.specs.Tree.{Lexeme, Parts, none, token, inner as within}
use Rattle.dps_syntax.specs.Grammar.{Derives, done as nothing, sign, taken, left, sign_of}
use Rattle.dps_scopes.specs.declared.meaning.Meaning.{Meaning}
use Rattle.dps_scopes.specs.declared.meaning.Meaning.TheVariants.{Local as a_local, Name as a_name, Function as a_function, Process as a_process, Projection as a_projection, Unknown as unknown}
use Rattle.dps_scopes.specs.Outcome.{Outcome, done, faulty, and_then}
use Rattle.dps_scopes.specs.Scopes.{Locals, is_projection_word, begins_as_projection, projection_of, defined}
use Rattle.dps_scopes.specs.Scopes.{named, function_or_named, declared_meaning, projection_or_declared, local_or_declared, local_named, meaning}
use Rattle.dps_scopes.specs.Terms.{is_kind, count_inner, without_arguments, function_of, identifier_as, tuple_of, term, terms, identifier}
use Rattle.dps_names.specs.Program.{Written, Definition}
use Rattle.dps_names.specs.Processes.{channel}
use Rattle.dps_judge.specs.Unbuilt.{is_unbuilt_word, has_comma, opening}
use Rattle.dps_judge.proofs.Rows.{IsOf, IsTree, IsRow, holds, row}
use Rattle.dps_judge.proofs.Fitting.{Fits, fits, kind_is}

-- outcomes

abbrev pub Holds : {S A : Type 0} → Outcome S A → (A → S → Type 0) → Type 0
Holds (done a s) P = P a s
Holds (faulty fault) P = Unit {0}

-- the value, and what is known behind it, if there is no fault
pub record OnDone {S A : Type 0} (o : Outcome S A) (P : A → S → Type 0) : Type 0 where
  pub holds : Holds o P

pub on_then :
    {S A B : Type 0} (o : Outcome S A) (next : A → S → Outcome S B) (P : A → S → Type 0) (Q : B → S → Type 0) → OnDone o P
    → ((a : A) (s : S) → P a s → OnDone (next a s) Q) → OnDone (and_then o next) Q
on_then (done a s) next P Q h k = k a s h.holds
on_then (faulty fault) next P Q h k = record { holds = tt }

pub on_if : {S A : Type 0} (b : Bool) (x y : Outcome S A) (P : A → S → Type 0) → (b ≡ true → OnDone x P) → (b ≡ false → OnDone y P) → OnDone (if b then x else y) P
on_if true x y P f g = f refl
on_if false x y P f g = g refl

-- the signature stays
abbrev pub Keeps : {A : Type 0} → Signature → A → Signature → Type 0
Keeps signature a after = after ≡ signature

-- meanings without projections

abbrev IsNoProjection : Meaning → Type 0
IsNoProjection (a_projection projection) = ⊥
IsNoProjection _ = Unit {0}

defined_none : (definitions : List Definition) (o : Option ℕ) → IsNoProjection (defined definitions o)
defined_none definitions (Some n) = tt
defined_none definitions None = tt

named_none : (signature : Signature) (definitions : List Definition) (text : List ℕ) (o : Option ℕ) → IsNoProjection (named signature definitions text o)
named_none signature definitions text (Some n) = tt
named_none signature definitions text None = defined_none definitions _

function_none : (signature : Signature) (definitions : List Definition) (text : List ℕ) (o : Option ℕ) → IsNoProjection (function_or_named signature definitions text o)
function_none signature definitions text (Some f) = tt
function_none signature definitions text None = named_none signature definitions text _

either_none : (b : Bool) (m : Meaning) → IsNoProjection m → IsNoProjection (if b then unknown else m)
either_none true m h = tt
either_none false m h = h

declared_none : (signature : Signature) (definitions : List Definition) (text : List ℕ) → IsNoProjection (declared_meaning signature definitions text)
declared_none signature definitions text = either_none (begins_as_projection text) _ (function_none signature definitions text _)

cut : {A : Type 0} (a b c : Bool) (x : Option A) → a ≡ false → (if a && b && c then x else None) ≡ None
cut true b c x e = cc
cut false b c x e = refl

projection_none : (text : List ℕ) → begins_as_projection text ≡ false → projection_of text ≡ None
projection_none (p ∷ r ∷ o ∷ j ∷ u ∷ i ∷ v ∷ n ∷ []) h = cut (is_projection_word p r o j u) _ _ _ h
projection_none _ h = refl

local_none : (signature : Signature) (definitions : List Definition) (text : List ℕ) (o : Option ℕ) → projection_of text ≡ None → IsNoProjection (local_or_declared signature definitions text o)
local_none signature definitions text (Some n) e = tt
local_none signature definitions text None e = subst (λ x. IsNoProjection (projection_or_declared signature definitions text x)) (sym e) (declared_none signature definitions text)

meaning_none : (signature : Signature) (definitions : List Definition) (scope : Locals) (text : List ℕ) → begins_as_projection text ≡ false → IsNoProjection (meaning signature definitions scope text)
meaning_none signature definitions scope text h = local_none signature definitions text (local_named scope text) (projection_none text h)

-- terms

alone_keeps : (lexeme : Lexeme) (count : ℕ) (signature : Signature) (w : Written) → OnDone (without_arguments lexeme count signature w) (Keeps signature)
alone_keeps lexeme zero signature w = record { holds = refl }
alone_keeps lexeme (suc n) signature w = record { holds = tt }

function_keeps :
    (lexeme : Lexeme) (b : Bool) (arguments : Outcome Signature (List Written)) (f : _) (signature : Signature) → OnDone arguments (Keeps signature)
    → OnDone (function_of lexeme b arguments f) (Keeps signature)
function_keeps lexeme true arguments f signature h = on_then arguments _ (Keeps signature) (Keeps signature) h (λ ws after e. record { holds = e })
function_keeps lexeme false arguments f signature h = record { holds = tt }

identified_keeps :
    (lexeme : Lexeme) (count : ℕ) (arguments : Signature → Outcome Signature (List Written)) (signature : Signature) (m : Meaning) → IsNoProjection m
    → OnDone (arguments signature) (Keeps signature) → OnDone (identifier_as lexeme count arguments signature m) (Keeps signature)
identified_keeps lexeme count arguments signature (a_local n) h k = alone_keeps lexeme count signature _
identified_keeps lexeme count arguments signature (a_name n private) h k = alone_keeps lexeme count signature _
identified_keeps lexeme count arguments signature (a_function f arity) h k = function_keeps lexeme _ (arguments signature) f signature k
identified_keeps lexeme count arguments signature (a_process n parameters) h k = record { holds = tt }
identified_keeps lexeme count arguments signature (a_projection projection) h k = absurd h
identified_keeps lexeme count arguments signature unknown h k = record { holds = tt }

-- an identifier alone
bare_keeps : (lexeme : Lexeme) (signature : Signature) (m : Meaning) → OnDone (identifier_as lexeme 0 (λ after. done [] after) signature m) (Keeps signature)
bare_keeps lexeme signature (a_local n) = record { holds = refl }
bare_keeps lexeme signature (a_name n private) = record { holds = refl }
bare_keeps lexeme signature (a_function f arity) = function_keeps lexeme _ (done [] signature) f signature (record { holds = refl })
bare_keeps lexeme signature (a_process n parameters) = record { holds = tt }
bare_keeps lexeme signature (a_projection projection) = record { holds = tt }
bare_keeps lexeme signature unknown = record { holds = tt }

tuple_keeps :
    (count : ℕ) (members : Signature → Outcome Signature (List Written)) (signature : Signature) (lexeme : Lexeme) → leb count 1 ≡ true
    → OnDone (members signature) (Keeps signature) → OnDone (tuple_of count members signature lexeme) (Keeps signature)
tuple_keeps count members signature lexeme few h =
    on_if (leb count 1) _ _ (Keeps signature)
    (λ e. on_then (members signature) _ (Keeps signature) (Keeps signature) h (λ ws after k. record { holds = k }))
    (λ e. let clash : true ≡ false = sym few ∙ e in cc)

-- a row of one term has no comma

or_left : (a b : Bool) → a || b ≡ false → a ≡ false
or_left true b e = cc
or_left false b e = refl

or_right : (a b : Bool) → a || b ≡ false → b ≡ false
or_right true b e = cc
or_right false b e = e

rest_count : {parts : Parts} {after : List Word} → Derives (More more.Terms ∷ sign_of kind.CloseParenthesis ∷ []) parts after → has_comma parts ≡ false → count_inner parts ≡ 0
rest_count (left e (sign f nothing)) h = refl
rest_count (taken (sign {lexeme = l} {parts} e d)) h =
    let comma : is_kind kind.Comma l ≡ true = ap (sameb kinds kind.Comma) (kind_is kind.Comma l refl e) in
    let no_comma : is_kind kind.Comma l ≡ false = or_left (is_kind kind.Comma l) (has_comma parts) h in
    cc

row_count : (parts : Parts) → Fits (Inner production.Term ∷ More more.Terms ∷ sign_of kind.CloseParenthesis ∷ []) parts → has_comma parts ≡ false → leb (count_inner parts) 1 ≡ true
row_count none f h = absurd f
row_count (token l parts) f h = absurd f
row_count (within q inside parts) f h = ap (λ n. leb (1 + n) 1) (rest_count f.2.1 h)

unopened : {A : Type 0} (a b : Bool) (x : A) → a ≡ true → (if true && a && b then Some x else None) ≡ None → b ≡ false
unopened true true x e h = cc
unopened true false x e h = refl
unopened false b x e h = cc

bracket_count :
    (l : Lexeme) (parts : Parts) → IsOf production.Term (token l parts) → is_kind kind.Identifier l ≡ false → opening production.Term (token l parts) ≡ None
    → leb (count_inner parts) 1 ≡ true
bracket_count l parts of other unopened_here =
    elim of.one [
      | inl e ↦
          let f : Fits (sign_of kind.Identifier ∷ More more.Brackets ∷ []) (token l parts) = fits (subst (λ i. Derives i (token l parts) of.after) e of.derived) in
          let yes : is_kind kind.Identifier l ≡ true = ap (sameb kinds kind.Identifier) (kind_is kind.Identifier l refl f.0) in
          cc
      | inr h ↦ elim h [
        | inl e ↦
            let f : Fits (sign_of kind.OpenParenthesis ∷ Inner production.Term ∷ More more.Terms ∷ sign_of kind.CloseParenthesis ∷ []) (token l parts) = fits
            (subst (λ i. Derives i (token l parts) of.after) e of.derived) in
            let open_kind : is_kind kind.OpenParenthesis l ≡ true = ap (sameb kinds kind.OpenParenthesis) (kind_is kind.OpenParenthesis l refl f.0) in
            row_count parts f.1 (unopened (is_kind kind.OpenParenthesis l) (has_comma parts) _ open_kind unopened_here)
        | inr k ↦ absurd k
      ]
    ]

term_row : (parts : Parts) → IsTree production.Term parts → IsRow production.Term parts
term_row parts tree =
    elim tree.of.one [
      | inl e ↦ row production.Term production.Term tree.of.derived (ap (holds production.Term) e) tree.clean
      | inr h ↦ elim h [
        | inl e ↦ row production.Term production.Term tree.of.derived (ap (holds production.Term) e) tree.clean
        | inr k ↦ absurd k
      ]
    ]

-- no term begins with a production
term_begins : (q : Production) (inside parts : Parts) → IsOf production.Term (within q inside parts) → ⊥
term_begins q inside parts of =
    elim of.one [
      | inl e ↦ fits (subst (λ i. Derives i (within q inside parts) of.after) e of.derived)
      | inr h ↦ elim h [
        | inl e ↦ fits (subst (λ i. Derives i (within q inside parts) of.after) e of.derived)
        | inr k ↦ k
      ]
    ]

and_false : (b c d : Bool) → b ≡ true → c || (b && d) ≡ false → d ≡ false
and_false true c true e h = let k = or_right c true h in cc
and_false true c false e h = refl
and_false false c d e h = cc

-- an identifier that may stand begins with no `proj_`
no_projection : (l : Lexeme) → is_kind kind.Identifier l ≡ true → is_unbuilt_word l ≡ false → begins_as_projection l.text ≡ false
no_projection l e h = and_false (is_kind kind.Identifier l) _ (begins_as_projection l.text) e h

module _ (definitions : List Definition) (scope : Locals) where
  mutual
    pub term_keeps : (parts : Parts) (signature : Signature) → IsTree production.Term parts → OnDone (term definitions scope parts signature) (Keeps signature)
    term_keeps none signature tree = record { holds = refl }
    term_keeps (within p inside parts) signature tree = absurd (term_begins p inside parts tree.of)
    term_keeps (token l parts) signature tree =
        on_if (is_kind kind.Identifier l) _ _ (Keeps signature)
        (λ e. identified_keeps l (count_inner parts) (terms definitions scope parts) signature (meaning signature definitions scope l.text)
        (meaning_none signature definitions scope l.text (no_projection l e tree.clean.0)) (terms_keep parts signature (term_row (token l parts) tree)))
        (λ e. tuple_keeps (count_inner parts) (terms definitions scope parts) signature l (bracket_count l parts tree.of e tree.closed) (terms_keep parts signature (term_row (token l parts) tree)))

    pub terms_keep : (parts : Parts) (signature : Signature) → IsRow production.Term parts → OnDone (terms definitions scope parts signature) (Keeps signature)
    terms_keep none signature r = record { holds = refl }
    terms_keep (token l parts) signature r = terms_keep parts signature r
    terms_keep (within p inside parts) signature r =
        on_then (term definitions scope inside signature) _ (Keeps signature) (Keeps signature) (term_keeps inside signature r.0) (λ w after e.
        on_then (terms definitions scope parts after) _ (Keeps after) (Keeps signature) (terms_keep parts after r.1) (λ ws last k. record { holds = k ∙ e }))

  pub channel_keeps : (l : Lexeme) (signature : Signature) → OnDone (channel definitions scope l signature) (Keeps signature)
  channel_keeps l signature =
      on_then (identifier definitions scope l signature) _ (Keeps signature) (Keeps signature) (bare_keeps l signature (meaning signature definitions scope l.text)) (λ w after e. record { holds = e })
