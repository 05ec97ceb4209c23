-- A body over its locals is written out to a process over the variables that are bound around it.
use Rattle.std.proofs.Common.{◌≡◌, ℕ, zero, suc, ◌+◌, ◌-◌, ◌<◌, inl, inr, List, [], ◌∷◌, ◌++◌, length, take, refl, sym, ap, ◌∙◌, subst, append_assoc, arith}
use Rattle.std.specs.Prelude.{◌≢◌, Some, slice_get}
use Rattle.std.proofs.lemmas.List.{append-nil, length-append}
use Rattle.dps_terms.specs.Tree.{app, trees, var, private, Tree}
use Rattle.dps_signature.specs.Signature.{Signature}
use Rattle.dps_signature.specs.Kinds.{IsSourceTerm}
use Rattle.dps_process.specs.Process as process
use Rattle.dps_process.specs.Process.{Process, IsFree, EachTerm, EachChannel}
use Rattle.dps_scopes.specs.declared.body.Step.{Step}
use Rattle.dps_scopes.specs.declared.body.Step.TheVariants.{Project, Test}
use Rattle.dps_names.specs.Program.{Body, Bodies, nil, parallel, choice, copies, fresh, input, output, conditional, bind, call, none, more, Definition}
use Rattle.dps_names.specs.WellFormed.{TakesArguments, locals_behind, AreStepsOver, IsBodyOver, AreBodiesOver}
use Rattle.dps_elab.specs.Expansion.{Value, Numbers, Expansion, Expanding, nothing, made, value_at, values_of, tree_in, one_name}
use Rattle.dps_elab.specs.Expansion.{beside, and_copies, one_variable, private_numbers, taken_apart, called, expand, chain, chain_behind, meanings}
use Rattle.dps_elab.proofs.Scoped.{IsAround, IsScopedTerm, AreScoped, scoped_source, scoped_variable, scoped_instance, scoped_arguments, scoped_projection, no_locals, bound_local, named_local}
use Rattle.dps_elab.proofs.LawfulChannels.{AreNamed, named_first, named_last, channel_within}

module _ (signature : Signature) where
  abbrev names : List ℕ
  names = private_numbers 0 signature.names

  abbrev pub IsThere : ℕ → Type 0
  IsThere c = c < length signature.names

  -- the free variables of the process are bound around it, and its terms are those of a file
  pub record IsScoped (xs : List ℕ) (p : Process) : Type 0 where
    pub free : (y : ℕ) → IsFree y p → IsAround xs y
    pub terms : EachTerm (IsSourceTerm signature) p

  -- so is the process of the expansion, and its channels are there, where each is a declared name
  pub record IsGood (xs : List ℕ) (e : Expansion) : Type 0 where
    pub scoped : IsScoped xs e.process
    pub channels : AreNamed e.channels → EachChannel IsThere e.process

  abbrev AreGood : List ℕ → Expanding → Type 0
  AreGood xs p = (next : Numbers) → IsGood xs (p next)

  -- a sign between processes keeps what holds of both
  record Joins (xs ys : List ℕ) (join : Process → Process → Process) : Type 0 where
    scope : (p q : Process) → IsScoped ys p → IsScoped xs q → IsScoped xs (join p q)
    channels : (p q : Process) → EachChannel IsThere p → EachChannel IsThere q → EachChannel IsThere (join p q)

  beside_good :
      (xs ys : List ℕ) (join : Process → Process → Process) (first : Expansion) (second : Expanding) → Joins xs ys join → IsGood ys first → AreGood xs second
      → IsGood xs (beside join first second)
  beside_good xs ys join first second joins h k =
      let last : Expansion = second first.next in
      let l : IsGood xs last = k first.next in
      record {
        scoped = joins.scope first.process last.process h.scoped l.scoped;
        channels = λ c. joins.channels first.process last.process (h.channels (named_first first.channels last.channels c)) (l.channels (named_last first.channels last.channels c));
      }

  -- a variable that is bound around, but is not this one
  around_outside : (x : ℕ) (xs : List ℕ) (y : ℕ) → IsAround (x ∷ xs) y → y ≢ x → IsAround xs y
  around_outside x xs y h d = elim h [ inl e ↦ absurd (d e) | inr k ↦ k ]

  parallel_joins : (xs : List ℕ) → Joins xs xs process.parallel
  parallel_joins xs = record {
    scope = λ p q a b. record { free = λ y f. elim f [ inl g ↦ a.free y g | inr g ↦ b.free y g ]; terms = (a.terms, b.terms) };
    channels = λ p q a b. (a, b);
  }

  choice_joins : (xs : List ℕ) → Joins xs xs process.choice
  choice_joins xs = record {
    scope = λ p q a b. record { free = λ y f. elim f [ inl g ↦ a.free y g | inr g ↦ b.free y g ]; terms = (a.terms, b.terms) };
    channels = λ p q a b. (a, b);
  }

  conditional_joins : (xs : List ℕ) (u v : Tree) → IsScopedTerm signature xs u → IsScopedTerm signature xs v → Joins xs xs (process.conditional u v)
  conditional_joins xs u v h k = record {
    scope = λ p q a b. record {
      free = λ y f. elim f [
        | inl g ↦ elim g [ inl s ↦ scoped_variable signature xs u y h s | inr s ↦ scoped_variable signature xs v y k s ]
        | inr g ↦ elim g [ inl s ↦ a.free y s | inr s ↦ b.free y s ]
      ];
      terms = (scoped_source signature xs u h, scoped_source signature xs v k, a.terms, b.terms);
    };
    channels = λ p q a b. (a, b);
  }

  bind_joins : (xs : List ℕ) (x : ℕ) (u : Tree) → IsScopedTerm signature xs u → Joins xs (x ∷ xs) (process.bind x u)
  bind_joins xs x u h = record {
    scope = λ p q a b. record {
      free = λ y f. elim f [
        | inl s ↦ scoped_variable signature xs u y h s
        | inr g ↦ elim g [ inl s ↦ around_outside x xs y (a.free y s.1) s.0 | inr s ↦ b.free y s ]
      ];
      terms = (scoped_source signature xs u h, a.terms, b.terms);
    };
    channels = λ p q a b. (a, b);
  }

  nothing_good : (xs : List ℕ) → AreGood xs nothing
  nothing_good xs next = record { scoped = record { free = λ y f. absurd f; terms = tt }; channels = λ c. tt }

  wider : (x : ℕ) (xs : List ℕ) (p : Expanding) → AreGood xs p → AreGood (x ∷ xs) p
  wider x xs p h next =
      let k = h next in record { scoped = record { free = λ y f. inr (k.scoped.free y f); terms = k.scoped.terms }; channels = k.channels }

  copies_good : (xs : List ℕ) (n : ℕ) (p : Expanding) → AreGood xs p → AreGood xs (and_copies n p)
  copies_good xs zero p h next = h next
  copies_good xs (suc n) p h next = beside_good xs xs process.parallel (p next) (and_copies n p) (parallel_joins xs) (h next) (copies_good xs n p h)

  -- what goes on with so many locals
  abbrev GoOnGood : ℕ → (List Value → Expanding) → Type 0
  GoOnGood n fits = (xs : List ℕ) (locals : List Value) → AreScoped signature xs n locals → AreGood xs (fits locals)

  taken_good :
      (steps : List Step) (xs : List ℕ) (n : ℕ) (locals : List Value) (fits : List Value → Expanding) (otherwise : Expanding) → AreStepsOver signature n steps
      → AreScoped signature xs n locals → GoOnGood (locals_behind n steps) fits → AreGood xs otherwise
      → AreGood xs (taken_apart names steps locals fits otherwise)
  taken_good [] xs n locals fits otherwise s h f o next = f xs locals h next
  taken_good (Project g i ∷ steps) xs n locals fits otherwise s h f o next =
      let x : ℕ = next.variable in
      let u : Tree = (value_at locals i).tree in
      beside_good xs (x ∷ xs) (process.bind x (app g (trees (u ∷ []))))
      (taken_apart names steps (locals ++ made (var x) ∷ []) fits otherwise (one_variable next)) otherwise
      (bind_joins xs x (app g (trees (u ∷ []))) (scoped_projection signature g xs u s.0 (h.each i s.1)))
      (taken_good steps (x ∷ xs) (n + 1) (locals ++ made (var x) ∷ []) fits otherwise s.2 (bound_local signature x xs n locals h) f (wider x xs otherwise o) (one_variable next))
      o
  taken_good (Test i w ∷ steps) xs n locals fits otherwise s h f o next =
      let u : Tree = (value_at locals i).tree in
      let v : Tree = tree_in locals w.tree in
      let k = beside_good xs xs (process.conditional u v) (taken_apart names steps locals fits otherwise next) otherwise
      (conditional_joins xs u v (h.each i s.0) (scoped_instance signature xs n locals h w.tree s.1))
      (taken_good steps xs n locals fits otherwise s.2 h f o next)
      o in
      record { scoped = k.scoped; channels = k.channels }

  -- what definitions mean is good at as many arguments as they take
  pub record AllGood (definitions : List Definition) (ms : List (List Value → Expanding)) : Type 0 where
    pub each : (k : ℕ) (xs : List ℕ) (n : ℕ) (arguments : List Value) → TakesArguments definitions k n → AreScoped signature xs n arguments → AreGood xs (called names ms k arguments)

  module _ (definitions : List Definition) (ms : List (List Value → Expanding)) (all : AllGood definitions ms) where
    mutual
      pub expand_good : (p : Body) (xs : List ℕ) (n : ℕ) (locals : List Value) → IsBodyOver signature definitions n p → AreScoped signature xs n locals → AreGood xs (expand names ms p locals)
      expand_good nil xs n locals b h next = nothing_good xs next
      expand_good (parallel ps) xs n locals b h next = chain_good process.parallel ps xs n locals (parallel_joins xs) b h next
      expand_good (choice ps) xs n locals b h next = chain_good process.choice ps xs n locals (choice_joins xs) b h next
      expand_good (copies m p) xs n locals b h next = copies_good xs (m - 1) (expand names ms p locals) (expand_good p xs n locals b h) next
      expand_good (fresh p) xs n locals b h next =
          expand_good p xs (n + 1) (locals ++ made (private next.name) ∷ []) b (named_local signature next.name xs n locals h) (one_name next)
      expand_good (input c steps p) xs n locals b h next =
          let x : ℕ = next.variable in
          let t : Tree = tree_in locals c.tree in
          let there = channel_within signature xs t (scoped_instance signature xs n locals h c.tree b.0) in
          let k = taken_good steps (x ∷ xs) (n + 1) (locals ++ made (var x) ∷ []) (expand names ms p) nothing b.1 (bound_local signature x xs n locals h)
          (λ ys ls g. expand_good p ys (locals_behind (n + 1) steps) ls b.2 g) (nothing_good (x ∷ xs)) (one_variable next) in
          record {
            scoped = record { free = λ y f. around_outside x xs y (k.scoped.free y f.1) f.0; terms = k.scoped.terms };
            channels = λ a. (there a.0, k.channels a.1);
          }
      expand_good (output c u p) xs n locals b h next =
          let t : Tree = tree_in locals c.tree in
          let v : Tree = tree_in locals u.tree in
          let there = channel_within signature xs t (scoped_instance signature xs n locals h c.tree b.0) in
          let s : IsScopedTerm signature xs v = scoped_instance signature xs n locals h u.tree b.1 in
          let k = expand_good p xs n locals b.2 h next in
          record {
            scoped = record {
              free = λ y f. elim f [ inl g ↦ scoped_variable signature xs v y s g | inr g ↦ k.scoped.free y g ];
              terms = (scoped_source signature xs v s, k.scoped.terms);
            };
            channels = λ a. (there a.0, k.channels a.1);
          }
      expand_good (conditional u v p q) xs n locals b h next =
          let s : Tree = tree_in locals u.tree in
          let t : Tree = tree_in locals v.tree in
          let k = beside_good xs xs (process.conditional s t) (expand names ms p locals next) (expand names ms q locals)
          (conditional_joins xs s t (scoped_instance signature xs n locals h u.tree b.0) (scoped_instance signature xs n locals h v.tree b.1))
          (expand_good p xs n locals b.2 h next) (expand_good q xs n locals b.3 h) in
          record { scoped = k.scoped; channels = k.channels }
      expand_good (bind u steps p q) xs n locals b h next =
          let x : ℕ = next.variable in
          let s : Tree = tree_in locals u.tree in
          let other : AreGood xs (expand names ms q locals) = expand_good q xs n locals b.3 h in
          let k = beside_good xs (x ∷ xs) (process.bind x s)
          (taken_apart names steps (locals ++ made (var x) ∷ []) (expand names ms p) (expand names ms q locals) (one_variable next)) (expand names ms q locals)
          (bind_joins xs x s (scoped_instance signature xs n locals h u.tree b.0))
          (taken_good steps (x ∷ xs) (n + 1) (locals ++ made (var x) ∷ []) (expand names ms p) (expand names ms q locals) b.1 (bound_local signature x xs n locals h)
          (λ ys ls g. expand_good p ys (locals_behind (n + 1) steps) ls b.2 g) (wider x xs (expand names ms q locals) other) (one_variable next))
          other in
          record { scoped = k.scoped; channels = k.channels }
      expand_good (call k arguments) xs n locals b h next =
          all.each k xs (length arguments) (values_of locals arguments) b.1 (scoped_arguments signature xs n locals h arguments b.0) next

      chain_good :
          (join : Process → Process → Process) (ps : Bodies) (xs : List ℕ) (n : ℕ) (locals : List Value) → Joins xs xs join
          → AreBodiesOver signature definitions n ps → AreScoped signature xs n locals → AreGood xs (chain names ms join ps locals)
      chain_good join none xs n locals j b h next = nothing_good xs next
      chain_good join (more p ps) xs n locals j b h next =
          behind_good join (expand names ms p locals) ps xs n locals j (expand_good p xs n locals b.0 h) b.1 h next

      behind_good :
          (join : Process → Process → Process) (p : Expanding) (ps : Bodies) (xs : List ℕ) (n : ℕ) (locals : List Value) → Joins xs xs join → AreGood xs p
          → AreBodiesOver signature definitions n ps → AreScoped signature xs n locals → AreGood xs (chain_behind names ms join p ps locals)
      behind_good join p none xs n locals j g b h next = g next
      behind_good join p (more q qs) xs n locals j g b h next =
          beside_good xs xs join (p next) (chain_behind names ms join (expand names ms q locals) qs locals) j (g next)
          (behind_good join (expand names ms q locals) qs xs n locals j (expand_good q xs n locals b.0 h) b.1 h)

  good_none : AllGood [] []
  good_none = record { each = λ k xs n arguments t h. nothing_good xs }

  one_definition : (d c : Definition) → Some d ≡ Some c → d ≡ c
  one_definition d c e = cc

  -- the meaning of one more definition
  good_more :
      (before : List Definition) (ms : List (List Value → Expanding)) (d : Definition) (m : List Value → Expanding)
      → length before ≡ length ms
      → GoOnGood d.parameters m
      → AllGood before ms
      → (k : ℕ) (xs : List ℕ) (n : ℕ) (arguments : List Value) → TakesArguments (before ++ d ∷ []) k n → AreScoped signature xs n arguments → AreGood xs (called names (ms ++ m ∷ []) k arguments)
  good_more [] [] d m e h all zero xs n arguments t s =
      h xs arguments (subst (λ (c : ℕ). AreScoped signature xs c arguments) (sym (ap (λ (c : Definition). c.parameters) (one_definition d t.0 t.1) ∙ t.2)) s)
  good_more [] [] d m e h all (suc k) xs n arguments t s = nothing_good xs
  good_more [] (x ∷ ms) d m e h all k xs n arguments t s = absurd (omega arith)
  good_more (b ∷ before) [] d m e h all k xs n arguments t s = absurd (omega arith)
  good_more (b ∷ before) (x ∷ ms) d m e h all zero xs n arguments t s = all.each 0 xs n arguments t s
  good_more (b ∷ before) (x ∷ ms) d m e h all (suc k) xs n arguments t s =
      good_more before ms d m (omega arith) h (record { each = λ j. all.each (suc j) }) k xs n arguments t s

  -- each of these definitions is over its parameters, and calls those before it
  abbrev AreOver : List Definition → List Definition → Type 0
  AreOver before ds = (k : ℕ) (d : Definition) → slice_get ds k ≡ Some d → IsBodyOver signature (before ++ take k ds) d.parameters d.body

  good_all : (before ds : List Definition) (ms : List (List Value → Expanding)) → length before ≡ length ms → AreOver before ds → AllGood before ms → AllGood (before ++ ds) (meanings names ms ds)
  good_all before [] ms e o all = subst (λ (ds : List Definition). AllGood ds ms) (sym (append-nil before)) all
  good_all before (d ∷ ds) ms e o all =
      let m : List Value → Expanding = λ arguments. expand names ms d.body arguments in
      let body : IsBodyOver signature before d.parameters d.body = subst (λ (bs : List Definition). IsBodyOver signature bs d.parameters d.body) (append-nil before) (o 0 d refl) in
      let good : GoOnGood d.parameters m = λ xs locals s. expand_good before ms all d.body xs d.parameters locals body s in
      let rest : AreOver (before ++ d ∷ []) ds =
      λ k c f. subst (λ (bs : List Definition). IsBodyOver signature bs c.parameters c.body) (sym (append_assoc before (d ∷ []) (take k ds))) (o (suc k) c f) in
      subst (λ (bs : List Definition). AllGood bs (meanings names (ms ++ m ∷ []) ds)) (append_assoc before (d ∷ []) ds)
      (good_all (before ++ d ∷ []) ds (ms ++ m ∷ []) (omega (arith, length-append before (d ∷ []), length-append ms (m ∷ []))) rest (record { each = good_more before ms d m e good all }))

  -- a side without locals
  pub side_good :
      (definitions : List Definition) (body : Body)
      → ((k : ℕ) (d : Definition) → slice_get definitions k ≡ Some d → IsBodyOver signature (take k definitions) d.parameters d.body)
      → IsBodyOver signature definitions 0 body → AreGood [] (expand names (meanings names [] definitions) body [])
  side_good definitions body o b = expand_good definitions (meanings names [] definitions) (good_all [] definitions [] refl o good_none) body [] 0 [] b (no_locals signature [])
