-- Names looked up in processes where nothing is used that is not judged yet: the signature stays, and the processes are
-- of `0`, `|`, copies, `new`, outputs and calls.
use Rattle.std.proofs.Common.{◌≡◌, ℕ, Bool, true, false, List, [], ◌∷◌, ◌++◌, None, refl, sym, ap, subst, ◌∙◌, inl, inr}
use Rattle.dps_lex.specs.declared.vocabulary.TokenKind.{TokenKind}
use Rattle.dps_lex.specs.declared.vocabulary.TokenKind.TheVariants as kind
use Rattle.dps_signature.specs.Signature.{Signature}
use Rattle.dps_syntax.specs.declared.grammar.Word.{Word}
use Rattle.dps_syntax.specs.declared.grammar.Production.{Production}
use Rattle.dps_syntax.specs.declared.grammar.Production.TheVariants as production
use Rattle.dps_syntax.specs.declared.grammar.More.TheVariants as more
use Rattle.dps_syntax.specs.declared.grammar.Symbol.{Symbol}
use Rattle.dps_syntax.specs.declared.grammar.Symbol.TheVariants.{Inner, More}
use Rattle.dps_syntax.specs.Tree.{Lexeme, Parts, none, token, inner as within, words}
use Rattle.dps_syntax.specs.Grammar.{Derives, done as nothing, sign, inner, taken, left, sign_of, zero_sign}
use Rattle.dps_scopes.specs.declared.meaning.Meaning.{Meaning}
use Rattle.dps_scopes.specs.declared.meaning.Meaning.TheVariants.{Local as a_local, Name as a_name, Function as a_function, Process as a_process, Projection as a_projection, Unknown as unknown}
use Rattle.dps_scopes.specs.Outcome.{Outcome, done}
use Rattle.dps_scopes.specs.Scopes.{Locals, meaning}
use Rattle.dps_scopes.specs.Terms.{count_inner, term, terms}
use Rattle.dps_names.specs.Program.{Written, Body, choice, Definition}
use Rattle.dps_names.specs.Processes.{joined, called, call_as, channel, parallels, choices, process, grouped, repeated, restricted, sent, continued, is_number_of_copies}
use Rattle.dps_judge.specs.Unbuilt.{is_unbuilt, opening}
use Rattle.dps_judge.proofs.Rows.{IsClean, IsOf, IsTree, IsRow, holds, row}
use Rattle.dps_judge.proofs.Fitting.{Fits, fits, kind_is}
use Rattle.dps_judge.proofs.PlainNames.{OnDone, on_then, on_if, Keeps, term_keeps, terms_keep, channel_keeps}
use Rattle.dps_judge.proofs.PlainBodies.{IsPlainBody, EachIsPlain, joined_plain}

-- the process is plain, and the signature stays
abbrev pub Plainly : Signature → Body → Signature → Type 0
Plainly signature p after = IsPlainBody p × (after ≡ signature)

abbrev pub PlainlyAll : Signature → List Body → Signature → Type 0
PlainlyAll signature ps after = EachIsPlain ps × (after ≡ signature)

-- calls

called_plain :
    (l : Lexeme) (b : Bool) (arguments : Outcome Signature (List Written)) (n : ℕ) (signature : Signature) → OnDone arguments (Keeps signature)
    → OnDone (called l b arguments n) (Plainly signature)
called_plain l true arguments n signature h = on_then arguments _ (Keeps signature) (Plainly signature) h (λ ws after e. record { holds = (tt, e) })
called_plain l false arguments n signature h = record { holds = tt }

call_plain :
    (l : Lexeme) (count : ℕ) (arguments : Outcome Signature (List Written)) (m : Meaning) (signature : Signature) → OnDone arguments (Keeps signature)
    → OnDone (call_as l count arguments m) (Plainly signature)
call_plain l count arguments (a_process n parameters) signature h = called_plain l _ arguments n signature h
call_plain l count arguments (a_local n) signature h = record { holds = tt }
call_plain l count arguments (a_name n private) signature h = record { holds = tt }
call_plain l count arguments (a_function f arity) signature h = record { holds = tt }
call_plain l count arguments (a_projection projection) signature h = record { holds = tt }
call_plain l count arguments unknown signature h = record { holds = tt }

-- the alternatives of a process, by its first token

-- what stands behind `)` of an output
abbrev FollowsOutput : Parts → Type 0
FollowsOutput (token l (within p inside parts)) = (p ≡ production.Pre) × IsOf production.Pre inside
FollowsOutput _ = Unit {0}

follows_output : {parts : Parts} {after : List Word} → Derives (More more.Then ∷ []) parts after → FollowsOutput parts
follows_output (left e nothing) = tt
follows_output (taken (sign e (inner {parts} {after} items one d rest))) = (refl, record { items = items; one = one; after = words parts ++ after; derived = d })

data IsPre (first : Lexeme) (parts : Parts) : Type 0 where
  is_zero : Fits [] parts → IsPre first parts
  is_group : first.kind ≡ kind.OpenParenthesis → Fits (Inner production.Par ∷ sign_of kind.CloseParenthesis ∷ []) parts → IsPre first parts
  is_copies : first.kind ≡ kind.Bang → Fits (sign_of kind.Caret ∷ sign_of kind.Number ∷ Inner production.Pre ∷ []) parts → IsPre first parts
  is_new : first.kind ≡ kind.New → Fits (sign_of kind.Identifier ∷ sign_of kind.Semicolon ∷ Inner production.Pre ∷ []) parts → IsPre first parts
  is_output :
      first.kind ≡ kind.Out
      → Fits (sign_of kind.OpenParenthesis ∷ sign_of kind.Identifier ∷ sign_of kind.Comma ∷ Inner production.Term ∷ sign_of kind.CloseParenthesis ∷ More more.Then ∷ []) parts
      → IsPre first parts
  is_call : first.kind ≡ kind.Identifier → IsRow production.Term parts → IsPre first parts

-- the token with another kind
abbrev of_kind : Lexeme → TokenKind → Lexeme
of_kind l k = record { kind = k; text = l.text; line = l.line; column = l.column }

unbuilt_kind : (first : Lexeme) (k : TokenKind) → first.kind ≡ k → is_unbuilt production.Pre first ≡ false → is_unbuilt production.Pre (of_kind first k) ≡ false
unbuilt_kind first k e h = subst (λ x. is_unbuilt production.Pre (of_kind first x) ≡ false) e h

pre_is : (first : Lexeme) (parts : Parts) → IsOf production.Pre (token first parts) → IsClean production.Pre (token first parts) → IsPre first parts
pre_is first parts of c =
    elim of.one [
      | inl e ↦
          let f : Fits (zero_sign ∷ []) (token first parts) = fits (at _ e) in
          is_zero f.1
      | inr h ↦ elim h [
        | inl e ↦
            let f : Fits (sign_of kind.OpenParenthesis ∷ Inner production.Par ∷ sign_of kind.CloseParenthesis ∷ []) (token first parts) = fits (at _ e) in
            is_group (kind_is kind.OpenParenthesis first refl f.0) f.1
        | inr h ↦ elim h [
          | inl e ↦
              let f : Fits (sign_of kind.Bang ∷ sign_of kind.Caret ∷ sign_of kind.Number ∷ Inner production.Pre ∷ []) (token first parts) = fits (at _ e) in
              is_copies (kind_is kind.Bang first refl f.0) f.1
          | inr h ↦ elim h [
            | inl e ↦
                let f : Fits (sign_of kind.New ∷ sign_of kind.Identifier ∷ sign_of kind.Semicolon ∷ Inner production.Pre ∷ []) (token first parts) = fits (at _ e) in
                is_new (kind_is kind.New first refl f.0) f.1
            | inr h ↦ elim h [
              | inl e ↦
                  let f : Fits (sign_of kind.In ∷ sign_of kind.OpenParenthesis ∷ sign_of kind.Identifier ∷ sign_of kind.Comma ∷ Inner production.Pattern ∷ sign_of kind.CloseParenthesis ∷ More
                  more.Then ∷ []) (token first parts) = fits (at _ e) in
                  absurd (input_unbuilt (kind_is kind.In first refl f.0))
              | inr h ↦ elim h [
                | inl e ↦
                    let f : Fits (sign_of kind.Out ∷ sign_of kind.OpenParenthesis ∷ sign_of kind.Identifier ∷ sign_of kind.Comma ∷ Inner production.Term ∷ sign_of kind.CloseParenthesis ∷ More
                    more.Then ∷ []) (token first parts) = fits (at _ e) in
                    is_output (kind_is kind.Out first refl f.0) f.1
                | inr h ↦ elim h [
                  | inl e ↦
                      let f : Fits (sign_of kind.If ∷ Inner production.Term ∷ sign_of kind.Equals ∷ Inner production.Term ∷ sign_of kind.Then ∷ Inner production.Pre ∷ More more.Else ∷ [])
                      (token first parts) = fits (at _ e) in
                      absurd (test_unbuilt (kind_is kind.If first refl f.0))
                  | inr h ↦ elim h [
                    | inl e ↦
                        let f : Fits (sign_of kind.Let ∷ Inner production.Pattern ∷ sign_of kind.Equals ∷ Inner production.Term ∷ sign_of kind.In ∷ Inner production.Pre ∷ More more.Else ∷ [])
                        (token first parts) = fits (at _ e) in
                        absurd (let_unbuilt (kind_is kind.Let first refl f.0))
                    | inr h ↦ elim h [
                      | inl e ↦
                          let f : Fits (sign_of kind.Identifier ∷ More more.Arguments ∷ []) (token first parts) = fits (at _ e) in
                          is_call (kind_is kind.Identifier first refl f.0) (row production.Term production.Pre of.derived (ap (holds production.Term) e) c)
                      | inr h ↦ absurd h
                    ]
                  ]
                ]
              ]
            ]
          ]
        ]
      ]
    ]
  where
    at : (alternative : List Symbol) → of.items ≡ alternative → Derives alternative (token first parts) of.after
    at alternative e = subst (λ i. Derives i (token first parts) of.after) e of.derived

    input_unbuilt : first.kind ≡ kind.In → ⊥
    input_unbuilt e = let h = unbuilt_kind first kind.In e c.0 in cc

    test_unbuilt : first.kind ≡ kind.If → ⊥
    test_unbuilt e = let h = unbuilt_kind first kind.If e c.0 in cc

    let_unbuilt : first.kind ≡ kind.Let → ⊥
    let_unbuilt e = let h = unbuilt_kind first kind.Let e c.0 in cc

-- chains

pub par_row : (parts : Parts) → IsOf production.Par parts → IsClean production.Par parts → IsRow production.Sum parts
par_row parts of c =
    elim of.one [
      | inl e ↦ row production.Sum production.Par of.derived (ap (holds production.Sum) e) c
      | inr h ↦ absurd h
    ]

choice_none : {parts : Parts} {after : List Word} → Derives (More more.Choice ∷ []) parts after → IsClean production.Sum parts → parts ≡ none
choice_none (left e nothing) c = refl
choice_none (taken (sign {lexeme = l} e d)) c =
    let h : is_unbuilt production.Sum (of_kind l kind.Plus) ≡ false = subst (λ x. is_unbuilt production.Sum (of_kind l x) ≡ false) (kind_is kind.Plus l refl e) c.0 in
    cc

-- one process and no other
record IsAlone (p : Production) (inside parts : Parts) : Type 0 where
  pub same : p ≡ production.Pre
  pub of : IsOf production.Pre inside
  pub alone : parts ≡ none

sum_alone : (p : Production) (inside parts : Parts) → IsOf production.Sum (within p inside parts) → IsClean production.Sum (within p inside parts) → IsAlone p inside parts
sum_alone p inside parts of c =
    elim of.one [
      | inl e ↦
          let f : Fits (Inner production.Pre ∷ More more.Choice ∷ []) (within p inside parts) = fits (subst (λ i. Derives i (within p inside parts) of.after) e of.derived) in
          record { same = f.0; of = f.1; alone = choice_none f.2.1 c.2 }
      | inr h ↦ absurd h
    ]

sum_begins : (l : Lexeme) (parts : Parts) → IsOf production.Sum (token l parts) → ⊥
sum_begins l parts of =
    elim of.one [
      | inl e ↦ fits (subst (λ i. Derives i (token l parts) of.after) e of.derived)
      | inr h ↦ h
    ]

abbrev OneAtMost : Signature → List Body → Signature → Type 0
OneAtMost signature ps after = (ps ≡ []) × (after ≡ signature)

choices_none : (definitions : List Definition) (scope : Locals) (parts : Parts) (signature : Signature) → parts ≡ none → OnDone (choices definitions scope parts signature) (OneAtMost signature)
choices_none definitions scope parts signature e = subst (λ x. OnDone (choices definitions scope x signature) (OneAtMost signature)) (sym e) (record { holds = (refl, refl) })

one_joined : (p : Body) (ps : List Body) → IsPlainBody p → ps ≡ [] → IsPlainBody (joined choice (p ∷ ps))
one_joined p ps h e = subst (λ x. IsPlainBody (joined choice (p ∷ x))) (sym e) h

as_pre : (p : Production) (inside : Parts) → p ≡ production.Pre → IsClean p inside → IsClean production.Pre inside
as_pre p inside e c = subst (λ x. IsClean x inside) e c

as_term : (p : Production) (inside : Parts) → p ≡ production.Term → IsOf production.Term inside → opening p inside ≡ None → IsClean p inside → IsTree production.Term inside
as_term p inside e of closed c = record { of = of; closed = subst (λ x. opening x inside ≡ None) e closed; clean = subst (λ x. IsClean x inside) e c }

module _ (definitions : List Definition) where
  -- where there is nothing behind the token, whatever it is
  zero_plain : (scope : Locals) (first : Lexeme) (signature : Signature) → OnDone (process definitions scope (token first none) signature) (Plainly signature)
  zero_plain scope first signature = by first.kind
    where
      by : (k : TokenKind) → OnDone (process definitions scope (token (of_kind first k) none) signature) (Plainly signature)
      by kind.Identifier = call_plain (of_kind first kind.Identifier) 0 (done [] signature) (meaning signature definitions scope first.text) signature (record { holds = refl })
      by _ = record { holds = (tt, refl) }

  zero_of : (scope : Locals) (first : Lexeme) (parts : Parts) (signature : Signature) → Fits [] parts → OnDone (process definitions scope (token first parts) signature) (Plainly signature)
  zero_of scope first none signature f = zero_plain scope first signature
  zero_of scope first (token l parts) signature f = absurd f
  zero_of scope first (within p inside parts) signature f = absurd f

  abbrev IsProcessPlain : Locals → Parts → Signature → Lexeme → TokenKind → Type 0
  IsProcessPlain scope parts signature first k = OnDone (process definitions scope (token (of_kind first k) parts) signature) (Plainly signature)

  mutual
    pub parallels_plain : (scope : Locals) (parts : Parts) (signature : Signature) → IsRow production.Sum parts → OnDone (parallels definitions scope parts signature) (PlainlyAll signature)
    parallels_plain scope none signature r = record { holds = (tt, refl) }
    parallels_plain scope (token l parts) signature r = parallels_plain scope parts signature r
    parallels_plain scope (within p inside parts) signature r =
        on_then (choices definitions scope inside signature) _ _ (PlainlyAll signature) (choices_plain scope inside signature r.0.of r.0.clean) (λ ps after h.
        on_then (parallels definitions scope parts after) _ (PlainlyAll after) (PlainlyAll signature) (parallels_plain scope parts after r.1) (λ qs last k.
        record { holds = ((h.0, k.0), k.1 ∙ h.1) }))

    choices_plain :
        (scope : Locals) (parts : Parts) (signature : Signature) → IsOf production.Sum parts → IsClean production.Sum parts
        → OnDone (choices definitions scope parts signature) (λ ps after. IsPlainBody (joined choice ps) × (after ≡ signature))
    choices_plain scope none signature of c = record { holds = (tt, refl) }
    choices_plain scope (token l parts) signature of c = absurd (sum_begins l parts of)
    choices_plain scope (within p inside parts) signature of c =
        let a = sum_alone p inside parts of c in
        on_then (process definitions scope inside signature) _ (Plainly signature) _ (process_plain scope inside signature a.of (as_pre p inside a.same c.1)) (λ q after h.
        on_then (choices definitions scope parts after) _ (OneAtMost after) _ (choices_none definitions scope parts after a.alone) (λ qs last k.
        record { holds = (one_joined q qs h.0 k.0, k.1 ∙ h.1) }))

    process_plain :
        (scope : Locals) (parts : Parts) (signature : Signature) → IsOf production.Pre parts → IsClean production.Pre parts
        → OnDone (process definitions scope parts signature) (Plainly signature)
    process_plain scope none signature of c = record { holds = (tt, refl) }
    process_plain scope (within p inside parts) signature of c = record { holds = (tt, refl) }
    process_plain scope (token first parts) signature of c =
        elim (pre_is first parts of c) [
          | is_zero f ↦ zero_of scope first parts signature f
          | is_group e f ↦ subst (IsProcessPlain scope parts signature first) (sym e) (grouped_plain scope parts signature f c.1)
          | is_copies e f ↦ subst (IsProcessPlain scope parts signature first) (sym e) (repeated_plain scope parts signature f c.1)
          | is_new e f ↦ subst (IsProcessPlain scope parts signature first) (sym e) (restricted_plain scope parts signature f c.1)
          | is_output e f ↦ subst (IsProcessPlain scope parts signature first) (sym e) (sent_plain scope parts signature f c.1)
          | is_call e r ↦ subst (IsProcessPlain scope parts signature first) (sym e)
              (call_plain (of_kind first kind.Identifier) (count_inner parts) (terms definitions scope parts signature) (meaning signature definitions scope first.text) signature
              (terms_keep definitions scope parts signature r))
        ]

    grouped_plain :
        (scope : Locals) (parts : Parts) (signature : Signature) → Fits (Inner production.Par ∷ sign_of kind.CloseParenthesis ∷ []) parts
        → IsClean production.Pre parts → OnDone (grouped definitions scope parts signature) (Plainly signature)
    grouped_plain scope none signature f c = record { holds = (tt, refl) }
    grouped_plain scope (token l parts) signature f c = record { holds = (tt, refl) }
    grouped_plain scope (within p inside parts) signature f c =
        on_then (parallels definitions scope inside signature) _ (PlainlyAll signature) (Plainly signature)
        (parallels_plain scope inside signature (par_row inside f.1 (subst (λ x. IsClean x inside) f.0 c.1)))
        (λ ps after h. record { holds = (joined_plain ps h.0, h.1) })

    repeated_plain :
        (scope : Locals) (parts : Parts) (signature : Signature) → Fits (sign_of kind.Caret ∷ sign_of kind.Number ∷ Inner production.Pre ∷ []) parts
        → IsClean production.Pre parts → OnDone (repeated definitions scope parts signature) (Plainly signature)
    repeated_plain scope (token caret (token number (within p inside parts))) signature f c =
        on_if (is_number_of_copies number) _ _ (Plainly signature)
        (λ e. on_then (process definitions scope inside signature) _ (Plainly signature) (Plainly signature) (process_plain scope inside signature f.1.1.1 (as_pre p inside f.1.1.0 c.1.1.1))
        (λ q after h. record { holds = h }))
        (λ e. record { holds = tt })
    repeated_plain scope _ signature f c = record { holds = (tt, refl) }

    restricted_plain :
        (scope : Locals) (parts : Parts) (signature : Signature) → Fits (sign_of kind.Identifier ∷ sign_of kind.Semicolon ∷ Inner production.Pre ∷ []) parts
        → IsClean production.Pre parts → OnDone (restricted definitions scope parts signature) (Plainly signature)
    restricted_plain scope (token name (token semicolon (within p inside parts))) signature f c =
        on_then (process definitions ((name.text ∷ []) ∷ scope) inside signature) _ (Plainly signature) (Plainly signature)
        (process_plain ((name.text ∷ []) ∷ scope) inside signature f.1.1.1 (as_pre p inside f.1.1.0 c.1.1.1)) (λ q after h. record {
          holds =
              h;
        })
    restricted_plain scope _ signature f c = record { holds = (tt, refl) }

    sent_plain :
        (scope : Locals) (parts : Parts) (signature : Signature)
        → Fits (sign_of kind.OpenParenthesis ∷ sign_of kind.Identifier ∷ sign_of kind.Comma ∷ Inner production.Term ∷ sign_of kind.CloseParenthesis ∷ More more.Then ∷ []) parts
        → IsClean production.Pre parts → OnDone (sent definitions scope parts signature) (Plainly signature)
    sent_plain scope (token bracket (token name (token comma (within p inside (token close parts))))) signature f c =
        let g = f.1.1.1 in
        let k = c.1.1.1 in
        on_then (channel definitions scope name signature) _ (Keeps signature) (Plainly signature) (channel_keeps definitions scope name signature) (λ ch after e.
        on_then (term definitions scope inside after) _ (Keeps after) (Plainly signature) (term_keeps definitions scope inside after (as_term p inside g.0 g.1 k.0 k.1)) (λ u next e2.
        on_then (continued definitions scope parts next) _ (Plainly next) (Plainly signature) (continued_plain scope parts next (follows_output g.2.1.1) k.2.1) (λ q last h.
        record { holds = (h.0, h.1 ∙ (e2 ∙ e)) })))
    sent_plain scope _ signature f c = record { holds = (tt, refl) }

    continued_plain :
        (scope : Locals) (parts : Parts) (signature : Signature) → FollowsOutput parts → IsClean production.Pre parts
        → OnDone (continued definitions scope parts signature) (Plainly signature)
    continued_plain scope (token l (within p inside parts)) signature f c = process_plain scope inside signature f.1 (as_pre p inside f.0 c.1.1)
    continued_plain scope _ signature f c = record { holds = (tt, refl) }
