-- Processes are over the signature behind them and the locals in scope, and their calls have as many arguments as the
-- definitions have parameters.
use Rattle.std.proofs.Common.{◌≡◌, ◌≤◌, ℕ, ◌+◌, Bool, true, false, List, [], ◌∷◌, Some, refl, sym, ◌∙◌, arith, length}
use Rattle.std.specs.Prelude.{◌==◌, slice_get, ⊤}
use Rattle.std.proofs.lemmas.Bool.{eqb-true}
use Rattle.dps_signature.specs.Signature.{Signature}
use Rattle.dps_syntax.specs.Tree.{Lexeme, Parts, none as no_parts, token, inner}
use Rattle.dps_scopes.specs.declared.body.Channel.{Channel}
use Rattle.dps_scopes.specs.declared.meaning.Meaning.{Meaning}
use Rattle.dps_scopes.specs.declared.meaning.Meaning.TheVariants.{Local as a_local, Name as a_name, Function as a_function, Process as a_process, Projection as a_projection, Unknown as unknown}
use Rattle.dps_scopes.specs.Faults.{place_of}
use Rattle.dps_scopes.specs.Outcome.{Outcome, done}
use Rattle.dps_scopes.specs.Scopes.{Locals, local_count, meaning}
use Rattle.dps_scopes.specs.Terms.{count_inner, term, terms, identifier}
use Rattle.dps_names.specs.declared.shape.Start.{Start}
use Rattle.dps_names.specs.declared.shape.Start.TheVariants.{Call, Group, Copies, Name, Input, Output, Test, Match, Nothing}
use Rattle.dps_names.specs.Program.{Written, Body, nil, parallel, choice, copies, fresh, input, output, conditional, bind, call, bodies, Definition}
use Rattle.dps_names.specs.Starts.{start_of, by_start}
use Rattle.dps_names.specs.Processes.{Pattern, number_of, joined, called, call_as, is_number_of_copies, pattern_in, channel, parallels, choices, process, grouped}
use Rattle.dps_names.specs.Processes.{repeated, restricted, received, sent, compared, matched, continued}
use Rattle.dps_names.specs.WellFormed.{IsTermOver, TakesArguments, locals_behind, IsBodyOver, AreBodiesOver}
use Rattle.dps_names.proofs.SignatureGrowth.{Grows, HasTuples, grows_refl, grows_trans}
use Rattle.dps_names.proofs.OverGrownSignatures.{term_lasts, steps_last, body_lasts}
use Rattle.dps_names.proofs.MeaningsThere.{Stands, meaning_stands}
use Rattle.dps_names.proofs.OutcomesOver.{Gives, gives_done, gives_then, gives_if}
use Rattle.dps_names.proofs.FormedTerms.{OverLocals, AreOverLocals, term_over, terms_over, identifier_over}
use Rattle.dps_names.proofs.FormedPatterns.{IsOutside, pattern_in_over}

-- what is found among the first definitions is found among all
pub record IsFront (definitions all : List Definition) : Type 0 where
  pub kept : (k : ℕ) (d : Definition) → slice_get definitions k ≡ Some d → slice_get all k ≡ Some d

pub whole_front : (definitions : List Definition) → IsFront definitions definitions
whole_front definitions = record { kept = λ k d e. e }

abbrev pub EachIsOver : List Definition → ℕ → Signature → List Body → Type 0
EachIsOver all n s [] = ⊤
EachIsOver all n s (p ∷ ps) = IsBodyOver s all n p × EachIsOver all n s ps

abbrev pub BodyOver : List Definition → ℕ → Signature → Body → Type 0
BodyOver all n s p = IsBodyOver s all n p

listed_over : (all : List Definition) (n : ℕ) (s : Signature) (ps : List Body) → EachIsOver all n s ps → AreBodiesOver s all n (bodies ps)
listed_over all n s [] h = tt
listed_over all n s (p ∷ ps) h = (h.0, listed_over all n s ps h.1)

pub parallels_join : (all : List Definition) (n : ℕ) (s : Signature) (ps : List Body) → EachIsOver all n s ps → IsBodyOver s all n (joined parallel ps)
parallels_join all n s [] h = tt
parallels_join all n s (p ∷ []) h = h.0
parallels_join all n s (p ∷ q ∷ ps) h = listed_over all n s (p ∷ q ∷ ps) h

choices_join : (all : List Definition) (n : ℕ) (s : Signature) (ps : List Body) → EachIsOver all n s ps → IsBodyOver s all n (joined choice ps)
choices_join all n s [] h = tt
choices_join all n s (p ∷ []) h = h.0
choices_join all n s (p ∷ q ∷ ps) h = listed_over all n s (p ∷ q ∷ ps) h

-- calls

takes_arguments : (definitions all : List Definition) (k parameters many : ℕ) → IsFront definitions all → TakesArguments definitions k parameters → parameters ≡ many → TakesArguments all k many
takes_arguments definitions all k parameters many front defined e =
    (defined.0, front.kept k defined.0 defined.1, defined.2 ∙ e)

called_over :
    (definitions all : List Definition) (lexeme : Lexeme) (b : Bool) (n k parameters many : ℕ) (s : Signature) (arguments : Outcome Signature (List Written))
    → IsFront definitions all → Gives s (AreOverLocals n many) arguments → TakesArguments definitions k parameters → (b ≡ true → parameters ≡ many)
    → Gives s (BodyOver all n) (called lexeme b arguments k)
called_over definitions all lexeme true n k parameters many s arguments front h defined e =
    gives_then s arguments _ (AreOverLocals n many) (BodyOver all n) h (λ ws t g tuples hs.
    gives_done t (BodyOver all n) (call k ws) tuples (hs.each, takes_arguments definitions all k parameters (length ws) front defined (e refl ∙ sym hs.listed)))
called_over definitions all lexeme false n k parameters many s arguments front h defined e = record { holds = tt }

call_over :
    (definitions all : List Definition) (lexeme : Lexeme) (n many : ℕ) (s : Signature) (arguments : Outcome Signature (List Written)) (m : Meaning)
    → IsFront definitions all → Gives s (AreOverLocals n many) arguments → Stands s definitions n m
    → Gives s (BodyOver all n) (call_as lexeme many arguments m)
call_over definitions all lexeme n many s arguments (a_process k parameters) front h there =
    called_over definitions all lexeme (many == parameters) n k parameters many s arguments front h there (λ e. sym (eqb-true many parameters e))
call_over definitions all lexeme n many s arguments (a_local k) front h there = record { holds = tt }
call_over definitions all lexeme n many s arguments (a_name k is_private) front h there = record { holds = tt }
call_over definitions all lexeme n many s arguments (a_function f arity) front h there = record { holds = tt }
call_over definitions all lexeme n many s arguments (a_projection projection) front h there = record { holds = tt }
call_over definitions all lexeme n many s arguments unknown front h there = record { holds = tt }

-- what is chosen by the first token
started :
    {A : Type 0} (s : Signature) (P : Signature → A → Type 0) (start : Start) (a b c d e f g h i : Outcome Signature A) → Gives s P a → Gives s P b
    → Gives s P c → Gives s P d → Gives s P e → Gives s P f → Gives s P g → Gives s P h → Gives s P i → Gives s P (by_start start a b c d e f g h i)
started s P Call a b c d e f g h i ka kb kc kd ke kf kg kh ki = ka
started s P Group a b c d e f g h i ka kb kc kd ke kf kg kh ki = kb
started s P Copies a b c d e f g h i ka kb kc kd ke kf kg kh ki = kc
started s P Name a b c d e f g h i ka kb kc kd ke kf kg kh ki = kd
started s P Input a b c d e f g h i ka kb kc kd ke kf kg kh ki = ke
started s P Output a b c d e f g h i ka kb kc kd ke kf kg kh ki = kf
started s P Test a b c d e f g h i ka kb kc kd ke kf kg kh ki = kg
started s P Match a b c d e f g h i ka kb kc kd ke kf kg kh ki = kh
started s P Nothing a b c d e f g h i ka kb kc kd ke kf kg kh ki = ki

-- a process behind a pattern is over the locals behind its steps
behind_pattern :
    (all : List Definition) (n : ℕ) (s t : Signature) (p : Pattern) (q : Body) → IsOutside n 0 0 s p → IsBodyOver t all (length p.names + n) q
    → IsBodyOver t all (locals_behind (n + 1) p.steps) q
behind_pattern all n s t p q h k = body_lasts t t all (grows_refl t) (length p.names + n) (locals_behind (n + 1) p.steps) (omega (arith, h.within)) q k

abbrev ChannelOver : ℕ → Signature → Channel → Type 0
ChannelOver n s c = IsTermOver s n c.tree

-- where nothing is written
nothing : (all : List Definition) (n : ℕ) (s : Signature) → HasTuples s → Gives s (BodyOver all n) (done nil s)
nothing all n s t = gives_done s (BodyOver all n) nil t tt

module _ (definitions all : List Definition) (front : IsFront definitions all) where
  channel_over : (scope : Locals) (lexeme : Lexeme) (s : Signature) → HasTuples s → Gives s (ChannelOver (local_count scope)) (channel definitions scope lexeme s)
  channel_over scope lexeme s t =
      gives_then s (identifier definitions scope lexeme s) _ (OverLocals (local_count scope)) (ChannelOver (local_count scope)) (identifier_over definitions scope lexeme s t) (λ w u g tuples h.
      gives_done u (ChannelOver (local_count scope)) (record { tree = w.tree; place = place_of lexeme }) tuples h)

  later : (s t : Signature) (n : ℕ) → Grows s t → (p : Body) → IsBodyOver s all n p → IsBodyOver t all n p
  later s t n g p h = body_lasts s t all g n n (omega arith) p h

  mutual
    pub parallels_over : (scope : Locals) (parts : Parts) (s : Signature) → HasTuples s → Gives s (EachIsOver all (local_count scope)) (parallels definitions scope parts s)
    parallels_over scope no_parts s t = gives_done s (EachIsOver all (local_count scope)) [] t tt
    parallels_over scope (token lexeme parts) s t = parallels_over scope parts s t
    parallels_over scope (inner p inside parts) s t =
        gives_then s (choices definitions scope inside s) _ (EachIsOver all (local_count scope)) (EachIsOver all (local_count scope)) (choices_over scope inside s t) (λ ps u g tuples h.
        gives_then u (parallels definitions scope parts u) _ (EachIsOver all (local_count scope)) (EachIsOver all (local_count scope)) (parallels_over scope parts u tuples) (λ qs last g2 tuples2 hs.
        gives_done last (EachIsOver all (local_count scope)) (joined choice ps ∷ qs) tuples2
        (later u last (local_count scope) g2 (joined choice ps) (choices_join all (local_count scope) u ps h), hs)))

    choices_over : (scope : Locals) (parts : Parts) (s : Signature) → HasTuples s → Gives s (EachIsOver all (local_count scope)) (choices definitions scope parts s)
    choices_over scope no_parts s t = gives_done s (EachIsOver all (local_count scope)) [] t tt
    choices_over scope (token lexeme parts) s t = choices_over scope parts s t
    choices_over scope (inner p inside parts) s t =
        gives_then s (process definitions scope inside s) _ (BodyOver all (local_count scope)) (EachIsOver all (local_count scope)) (process_over scope inside s t) (λ q u g tuples h.
        gives_then u (choices definitions scope parts u) _ (EachIsOver all (local_count scope)) (EachIsOver all (local_count scope)) (choices_over scope parts u tuples) (λ qs last g2 tuples2 hs.
        gives_done last (EachIsOver all (local_count scope)) (q ∷ qs) tuples2 (later u last (local_count scope) g2 q h, hs)))

    process_over : (scope : Locals) (parts : Parts) (s : Signature) → HasTuples s → Gives s (BodyOver all (local_count scope)) (process definitions scope parts s)
    process_over scope no_parts s t = nothing all (local_count scope) s t
    process_over scope (inner p inside parts) s t = nothing all (local_count scope) s t
    process_over scope (token first parts) s t =
        started s (BodyOver all (local_count scope)) (start_of first.kind) _ _ _ _ _ _ _ _ _
        (call_over definitions all first (local_count scope) (count_inner parts) s (terms definitions scope parts s) (meaning s definitions scope first.text) front
        (terms_over definitions scope parts s t) (meaning_stands s definitions scope first.text))
        (grouped_over scope parts s t)
        (repeated_over scope parts s t)
        (restricted_over scope parts s t)
        (received_over scope parts s t)
        (sent_over scope parts s t)
        (compared_over scope parts s t)
        (matched_over scope parts s t)
        (nothing all (local_count scope) s t)

    grouped_over : (scope : Locals) (parts : Parts) (s : Signature) → HasTuples s → Gives s (BodyOver all (local_count scope)) (grouped definitions scope parts s)
    grouped_over scope (inner p inside parts) s t =
        gives_then s (parallels definitions scope inside s) _ (EachIsOver all (local_count scope)) (BodyOver all (local_count scope)) (parallels_over scope inside s t) (λ ps u g tuples h.
        gives_done u (BodyOver all (local_count scope)) (joined parallel ps) tuples (parallels_join all (local_count scope) u ps h))
    grouped_over scope _ s t = nothing all (local_count scope) s t

    repeated_over : (scope : Locals) (parts : Parts) (s : Signature) → HasTuples s → Gives s (BodyOver all (local_count scope)) (repeated definitions scope parts s)
    repeated_over scope (token caret (token number (inner p inside parts))) s t =
        gives_if s (is_number_of_copies number) _ _ (BodyOver all (local_count scope))
        (λ e. gives_then s (process definitions scope inside s) _ (BodyOver all (local_count scope)) (BodyOver all (local_count scope)) (process_over scope inside s t)
        (λ q u g tuples h. gives_done u (BodyOver all (local_count scope)) (copies (number_of number) q) tuples h))
        (λ e. record { holds = tt })
    repeated_over scope _ s t = nothing all (local_count scope) s t

    restricted_over : (scope : Locals) (parts : Parts) (s : Signature) → HasTuples s → Gives s (BodyOver all (local_count scope)) (restricted definitions scope parts s)
    restricted_over scope (token name (token semicolon (inner p inside parts))) s t =
        gives_then s (process definitions ((name.text ∷ []) ∷ scope) inside s) _ (BodyOver all (local_count ((name.text ∷ []) ∷ scope))) (BodyOver all (local_count scope))
        (process_over ((name.text ∷ []) ∷ scope) inside s t) (λ q u g tuples h.
        let few : local_count ((name.text ∷ []) ∷ scope) ≤ local_count scope + 1 = omega arith in
        gives_done u (BodyOver all (local_count scope)) (fresh q) tuples (body_lasts u u all (grows_refl u) (local_count ((name.text ∷ []) ∷ scope)) (local_count scope + 1) few q h))
    restricted_over scope _ s t = nothing all (local_count scope) s t

    received_over : (scope : Locals) (parts : Parts) (s : Signature) → HasTuples s → Gives s (BodyOver all (local_count scope)) (received definitions scope parts s)
    received_over scope (token bracket (token name (token comma (inner p inside (token close parts))))) s t =
        let n = local_count scope in
        gives_then s (channel definitions scope name s) _ (ChannelOver n) (BodyOver all n) (channel_over scope name s t) (λ c u g tuples hc.
        gives_then u (pattern_in definitions scope inside u) _ (IsOutside n 0 0) (BodyOver all n) (pattern_in_over definitions scope inside u tuples) (λ found v g2 tuples2 hp.
        gives_then v (continued definitions (found.names ∷ scope) parts v) _ (BodyOver all (local_count (found.names ∷ scope))) (BodyOver all n)
        (continued_over (found.names ∷ scope) parts v tuples2) (λ q last g3 tuples3 h.
        gives_done last (BodyOver all n) (input c found.steps q) tuples3 (
          term_lasts u last n n (grows_trans u v last g2 g3) (omega arith) c.tree hc,
          steps_last v last (n + 1) (n + 1) g3 (omega arith) found.steps hp.steps,
          behind_pattern all n v last found q
              hp h,
        ))))
    received_over scope _ s t = nothing all (local_count scope) s t

    sent_over : (scope : Locals) (parts : Parts) (s : Signature) → HasTuples s → Gives s (BodyOver all (local_count scope)) (sent definitions scope parts s)
    sent_over scope (token bracket (token name (token comma (inner p inside (token close parts))))) s t =
        let n = local_count scope in
        gives_then s (channel definitions scope name s) _ (ChannelOver n) (BodyOver all n) (channel_over scope name s t) (λ c u g tuples hc.
        gives_then u (term definitions scope inside u) _ (OverLocals n) (BodyOver all n) (term_over definitions scope inside u tuples) (λ w v g2 tuples2 hw.
        gives_then v (continued definitions scope parts v) _ (BodyOver all n) (BodyOver all n) (continued_over scope parts v tuples2) (λ q last g3 tuples3 h.
        gives_done last (BodyOver all n) (output c w q) tuples3
        (term_lasts u last n n (grows_trans u v last g2 g3) (omega arith) c.tree hc, term_lasts v last n n g3 (omega arith) w.tree hw, h))))
    sent_over scope _ s t = nothing all (local_count scope) s t

    compared_over : (scope : Locals) (parts : Parts) (s : Signature) → HasTuples s → Gives s (BodyOver all (local_count scope)) (compared definitions scope parts s)
    compared_over scope (inner p left (token equals (inner q right (token word (inner r chosen parts))))) s t =
        let n = local_count scope in
        gives_then s (term definitions scope left s) _ (OverLocals n) (BodyOver all n) (term_over definitions scope left s t) (λ x u g tuples hx.
        gives_then u (term definitions scope right u) _ (OverLocals n) (BodyOver all n) (term_over definitions scope right u tuples) (λ y v g2 tuples2 hy.
        gives_then v (process definitions scope chosen v) _ (BodyOver all n) (BodyOver all n) (process_over scope chosen v tuples2) (λ yes_body w g3 tuples3 h.
        gives_then w (continued definitions scope parts w) _ (BodyOver all n) (BodyOver all n) (continued_over scope parts w tuples3) (λ no_body last g4 tuples4 k.
        let behind = grows_trans v w last g3 g4 in
        gives_done last (BodyOver all n) (conditional x y yes_body no_body) tuples4
        (term_lasts u last n n (grows_trans u v last g2 behind) (omega arith) x.tree hx, term_lasts v last n n behind (omega arith) y.tree hy, later w last n g4 yes_body h, k)))))
    compared_over scope _ s t = nothing all (local_count scope) s t

    matched_over : (scope : Locals) (parts : Parts) (s : Signature) → HasTuples s → Gives s (BodyOver all (local_count scope)) (matched definitions scope parts s)
    matched_over scope (inner p inside (token equals (inner q right (token word (inner r chosen parts))))) s t =
        let n = local_count scope in
        gives_then s (pattern_in definitions scope inside s) _ (IsOutside n 0 0) (BodyOver all n) (pattern_in_over definitions scope inside s t) (λ found u g tuples hp.
        gives_then u (term definitions scope right u) _ (OverLocals n) (BodyOver all n) (term_over definitions scope right u tuples) (λ y v g2 tuples2 hy.
        gives_then v (process definitions (found.names ∷ scope) chosen v) _ (BodyOver all (local_count (found.names ∷ scope))) (BodyOver all n)
        (process_over (found.names ∷ scope) chosen v tuples2) (λ yes_body w g3 tuples3 h.
        gives_then w (continued definitions scope parts w) _ (BodyOver all n) (BodyOver all n) (continued_over scope parts w tuples3) (λ no_body last g4 tuples4 k.
        let behind = grows_trans v w last g3 g4 in
        let inside_body : IsBodyOver last all (length found.names + n) yes_body = body_lasts w last all g4 (length found.names + n) (length found.names + n) (omega arith) yes_body h in
        gives_done last (BodyOver all n) (bind y found.steps yes_body no_body) tuples4 (
          term_lasts v last n n behind (omega arith) y.tree hy,
          steps_last u last (n + 1) (n + 1) (grows_trans u v last g2 behind) (omega arith) found.steps hp.steps,
          behind_pattern all n u last
              found yes_body hp inside_body,
          k,
        )))))
    matched_over scope _ s t = nothing all (local_count scope) s t

    continued_over : (scope : Locals) (parts : Parts) (s : Signature) → HasTuples s → Gives s (BodyOver all (local_count scope)) (continued definitions scope parts s)
    continued_over scope (token sign (inner p inside parts)) s t = process_over scope inside s t
    continued_over scope _ s t = nothing all (local_count scope) s t
