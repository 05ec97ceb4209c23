-- The steps of patterns are over the signature behind them and the locals that they make, and there are at least as many
-- locals behind the steps as the pattern names.
use Rattle.std.proofs.Common.{◌≡◌, ◌≤◌, ◌<◌, ℕ, ◌+◌, ◌&&◌, List, [], ◌∷◌, ◌++◌, refl, arith, length, length-append}
use Rattle.std.specs.Prelude.{nat_le}
use Rattle.dps_lex.specs.declared.vocabulary.TokenKind.TheVariants as kinds
use Rattle.dps_terms.specs.declared.Sym.{Sym}
use Rattle.dps_signature.specs.Signature.{Signature, HasArity, shapes}
use Rattle.dps_syntax.specs.Tree.{Lexeme, Parts, none, token, inner}
use Rattle.dps_scopes.specs.declared.body.Step.{Step}
use Rattle.dps_scopes.specs.declared.body.Step.TheVariants.{Project, Test}
use Rattle.dps_scopes.specs.Scopes.{Locals, local_count, most_arguments, with_tuple}
use Rattle.dps_scopes.specs.Terms.{is_kind, count_inner, term}
use Rattle.dps_names.specs.Program.{Written, Definition}
use Rattle.dps_names.specs.Processes.{Pattern, is_among, projection_symbol, with_name, unnamed, with_step, next_local, variable, tested, pattern, members, pattern_in}
use Rattle.dps_names.specs.WellFormed.{IsTermOver, AreStepsOver, locals_behind}
use Rattle.dps_names.proofs.SignatureGrowth.{Grows, HasTuples, grows_refl, kept_arity}
use Rattle.dps_names.proofs.Tupling.{IsTupled, tupled}
use Rattle.dps_names.proofs.OverGrownSignatures.{term_lasts, steps_last}
use Rattle.dps_names.proofs.OutcomesOver.{Gives, gives_done, gives_later, gives_weaker, gives_then, gives_if}
use Rattle.dps_names.proofs.FormedTerms.{OverLocals, term_over}

-- steps, and steps behind them

behind_append : (n : ℕ) (xs ys : List Step) → locals_behind n (xs ++ ys) ≡ locals_behind (locals_behind n xs) ys
behind_append n [] ys = refl
behind_append n (Project f i ∷ xs) ys = behind_append (n + 1) xs ys
behind_append n (Test i w ∷ xs) ys = behind_append n xs ys

steps_append : (s : Signature) (n : ℕ) (xs ys : List Step) → AreStepsOver s n xs → AreStepsOver s (locals_behind n xs) ys → AreStepsOver s n (xs ++ ys)
steps_append s n [] ys h k = k
steps_append s n (Project f i ∷ xs) ys h k = (h.0, h.1, steps_append s (n + 1) xs ys h.2 k)
steps_append s n (Test i w ∷ xs) ys h k = (h.0, h.1, steps_append s n xs ys h.2 k)

-- A pattern outside which there are n locals: behind its steps there are as many as it names, `room` more, and at
-- least `floor`.
pub record IsOutside (n floor room : ℕ) (s : Signature) (p : Pattern) : Type 0 where
  pub within : (n + length p.names) + room ≤ locals_behind (n + 1) p.steps
  pub above : floor ≤ locals_behind (n + 1) p.steps
  pub steps : AreStepsOver s (n + 1) p.steps

outside_lasts : (n floor room : ℕ) (s t : Signature) (p : Pattern) → Grows s t → IsOutside n floor room s p → IsOutside n floor room t p
outside_lasts n floor room s t p g h = record { within = h.within; above = h.above; steps = steps_last s t (n + 1) (n + 1) g (omega arith) p.steps h.steps }

-- the locals behind the steps are a floor of their own
raised : (n floor room : ℕ) (s : Signature) (p : Pattern) → IsOutside n floor room s p → IsOutside n (locals_behind (n + 1) p.steps) room s p
raised n floor room s p h = record { within = h.within; above = omega arith; steps = h.steps }

lowered : (n floor low room : ℕ) (s : Signature) (p : Pattern) → low ≤ floor → IsOutside n floor room s p → IsOutside n low room s p
lowered n floor low room s p l h = record { within = h.within; above = omega (arith, h.above, l); steps = h.steps }

no_room : (n floor : ℕ) (s : Signature) (p : Pattern) → IsOutside n floor 1 s p → IsOutside n floor 0 s p
no_room n floor s p h = record { within = omega (arith, h.within); above = h.above; steps = h.steps }

starts : (n : ℕ) (s : Signature) → IsOutside n 0 1 s (record { steps = []; names = [] })
starts n s = record { within = omega arith; above = omega arith; steps = tt }

one_named : (n floor : ℕ) (s : Signature) (p : Pattern) (text : List ℕ) → IsOutside n floor 1 s p → IsOutside n floor 0 s (with_name p text)
one_named n floor s p text h =
    let one : length (p.names ++ text ∷ []) ≡ length p.names + 1 = length-append p.names (text ∷ []) in
    record { within = omega (arith, h.within, one); above = h.above; steps = h.steps }

projected : (n floor i : ℕ) (s : Signature) (p : Pattern) (f : Sym) → HasArity (shapes s) f 1 → i < floor → IsOutside n floor 0 s p → IsOutside n floor 1 s (with_step p (Project f i))
projected n floor i s p f a l h =
    let e : locals_behind (n + 1) (p.steps ++ Project f i ∷ []) ≡ locals_behind (n + 1) p.steps + 1 = behind_append (n + 1) p.steps (Project f i ∷ []) in
    record {
      within = omega (arith, h.within, e);
      above = omega (arith, h.above, e);
      steps = steps_append s (n + 1) p.steps (Project f i ∷ []) h.steps (a, omega (arith, h.above, l), tt);
    }

one_tested :
    (n floor i : ℕ) (s : Signature) (p : Pattern) (w : Written) → i ≡ n + length p.names → IsTermOver s n w.tree → IsOutside n floor 1 s p
    → IsOutside n floor 0 s (with_step (unnamed p) (Test i w))
one_tested n floor i s p w is over h =
    let e : locals_behind (n + 1) (p.steps ++ Test i w ∷ []) ≡ locals_behind (n + 1) p.steps = behind_append (n + 1) p.steps (Test i w ∷ []) in
    let one : length (p.names ++ [] ∷ []) ≡ length p.names + 1 = length-append p.names ([] ∷ []) in
    let more : n ≤ locals_behind (n + 1) p.steps = omega (arith, h.within) in
    record {
      within = omega (arith, h.within, e, one);
      above = omega (arith, h.above, e);
      steps = steps_append s (n + 1) p.steps (Test i w ∷ []) h.steps (omega (arith, h.within, is), term_lasts s s n (locals_behind (n + 1) p.steps) (grows_refl s) more w.tree over, tt);
    }

-- the projections of a tuple of so many members
pub record HasMembers (s : Signature) (symbol many : ℕ) : Type 0 where
  pub takes : (i : ℕ) → 1 ≤ i → i ≤ many → HasArity (shapes s) (record { number = symbol + i }) 1

members_last : (s t : Signature) (symbol many : ℕ) → Grows s t → HasMembers s symbol many → HasMembers t symbol many
members_last s t symbol many g h = record { takes = λ i l m. kept_arity s t g (record { number = symbol + i }) 1 (h.takes i l m) }

module _ (definitions : List Definition) (outside : Locals) where
  variable_over :
      (lexeme : Lexeme) (floor : ℕ) (p : Pattern) (s : Signature) → HasTuples s → IsOutside (local_count outside) floor 1 s p
      → Gives s (IsOutside (local_count outside) floor 0) (variable lexeme p s)
  variable_over lexeme floor p s t h =
      gives_if s (is_among lexeme.text p.names) _ _ (IsOutside (local_count outside) floor 0)
      (λ e. record { holds = tt })
      (λ e. gives_done s (IsOutside (local_count outside) floor 0) (with_name p lexeme.text) t (one_named (local_count outside) floor s p lexeme.text h))

  tested_over :
      (parts : Parts) (floor : ℕ) (p : Pattern) (s : Signature) → HasTuples s → IsOutside (local_count outside) floor 1 s p
      → Gives s (IsOutside (local_count outside) floor 0) (tested definitions outside parts p s)
  tested_over parts floor p s t h =
      gives_then s (term definitions outside parts s) _ (OverLocals (local_count outside)) (IsOutside (local_count outside) floor 0) (term_over definitions outside parts s t) (λ w u g tuples over.
      gives_done u (IsOutside (local_count outside) floor 0) (with_step (unnamed p) (Test (next_local outside p) w)) tuples
      (one_tested (local_count outside) floor (next_local outside p) u p w refl over (outside_lasts (local_count outside) floor 1 s u p g h)))

  -- what reads the members of a tuple, whatever its symbol
  record ReadsMembers (parts : Parts) : Type 0 where
    pub reads :
        (floor symbol from : ℕ) (p : Pattern) (s : Signature) → HasTuples s → HasMembers s symbol (count_inner parts) → from < floor
        → IsOutside (local_count outside) floor 0 s p
        → Gives s (IsOutside (local_count outside) floor 0) (members definitions outside parts symbol from 1 p s)

  -- a tuple, whose members are read with its symbols
  tuple_over :
      (parts : Parts) (floor : ℕ) (p : Pattern) (s u : Signature) (symbol : ℕ) → ReadsMembers parts → IsTupled s (count_inner parts) symbol u
      → IsOutside (local_count outside) floor 1 s p
      → Gives s (IsOutside (local_count outside) floor 0) (members definitions outside parts symbol (next_local outside p) 1 (unnamed p) u)
  tuple_over parts floor p s u symbol read there h =
      let n = local_count outside in
      let high = locals_behind (n + 1) p.steps in
      let below : next_local outside p < high = omega (arith, h.within) in
      let h2 : IsOutside n high 0 u (unnamed p) = one_named n high u p [] (outside_lasts n high 1 s u p there.grows (raised n floor 1 s p h)) in
      gives_later s u (IsOutside n floor 0) _ there.grows
      (gives_weaker u (IsOutside n high 0) (IsOutside n floor 0) _ (λ t q k. lowered n high floor 0 t q h.above k)
      (read.reads high symbol (next_local outside p) (unnamed p) u there.tuples (record { takes = there.takes }) below h2))

  mutual
    pub pattern_over :
        (parts : Parts) (floor : ℕ) (p : Pattern) (s : Signature) → HasTuples s → IsOutside (local_count outside) floor 1 s p
        → Gives s (IsOutside (local_count outside) floor 0) (pattern definitions outside parts p s)
    pattern_over none floor p s t h = gives_done s (IsOutside (local_count outside) floor 0) p t (no_room (local_count outside) floor s p h)
    pattern_over (inner q inside parts) floor p s t h = gives_done s (IsOutside (local_count outside) floor 0) p t (no_room (local_count outside) floor s p h)
    pattern_over (token lexeme parts) floor p s t h =
        gives_if s (is_kind kinds.Identifier lexeme) _ _ (IsOutside (local_count outside) floor 0)
        (λ e. variable_over lexeme floor p s t h)
        (λ e. gives_if s (is_kind kinds.Equals lexeme) _ _ (IsOutside (local_count outside) floor 0)
        (λ f. tested_over parts floor p s t h)
        (λ f. gives_if s (nat_le 2 (count_inner parts) && nat_le (count_inner parts) most_arguments) _ _ (IsOutside (local_count outside) floor 0)
        (λ k. tuple_over parts floor p s (with_tuple s (count_inner parts)).signature (with_tuple s (count_inner parts)).symbol
        (record { reads = λ high symbol from q u a b c d. members_over parts high symbol from 1 (count_inner parts) q u a b (omega arith) (omega arith) c d }) (tupled s (count_inner parts) t) h)
        (λ k. record { holds = tt })))

    members_over :
        (parts : Parts) (floor symbol from i many : ℕ) (p : Pattern) (s : Signature) → HasTuples s → HasMembers s symbol many → 1 ≤ i
        → i + count_inner parts ≤ many + 1 → from < floor → IsOutside (local_count outside) floor 0 s p
        → Gives s (IsOutside (local_count outside) floor 0) (members definitions outside parts symbol from i p s)
    members_over none floor symbol from i many p s t k low few below h = gives_done s (IsOutside (local_count outside) floor 0) p t h
    members_over (token lexeme parts) floor symbol from i many p s t k low few below h = members_over parts floor symbol from i many p s t k low few below h
    members_over (inner q inside parts) floor symbol from i many p s t k low few below h =
        gives_then s (pattern definitions outside inside (with_step p (Project (projection_symbol symbol i) from)) s) _ (IsOutside (local_count outside) floor 0)
        (IsOutside (local_count outside) floor 0)
        (pattern_over inside floor (with_step p (Project (projection_symbol symbol i) from)) s t
        (projected (local_count outside) floor from s p (projection_symbol symbol i) (k.takes i low (omega (arith, few))) below h))
        (λ next u g tuples h2.
        members_over parts floor symbol from (i + 1) many next u tuples (members_last s u symbol many g k) (omega arith) (omega (arith, few)) below h2)

pub pattern_in_over :
    (definitions : List Definition) (scope : Locals) (parts : Parts) (s : Signature) → HasTuples s
    → Gives s (IsOutside (local_count scope) 0 0) (pattern_in definitions scope parts s)
pattern_in_over definitions scope parts s t = pattern_over definitions scope parts 0 (record { steps = []; names = [] }) s t (starts (local_count scope) s)
