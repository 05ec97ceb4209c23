-- What is declared, and what is not, in a signature that grows.
use Rattle.std.proofs.Common.{◌≡◌, ◌≤◌, ◌<◌, ◌⊎◌, ℕ, zero, suc, ◌+◌, ◌-◌, ◌^◌, Bool, true, false, cond, List, [], ◌∷◌, ◌++◌, Option, Some, None, refl, sym, ap, ◌∙◌}
use Rattle.std.proofs.Common.{subst, inl, inr, length, length-append, arith, option_map, bytes_eq, position, take, append_assoc, append-nil}
use Rattle.std.specs.Prelude.{IsSome, ⊤, if◌then◌else◌}
use Rattle.std.proofs.lemmas.Bool.{cases_Bool, cases_lt}
use Rattle.std.proofs.lemmas.Option.{none-some}
use Rattle.std.proofs.lemmas.Slice.Eq.{bytes_eq-Decides}
use Rattle.dps_signature.specs.declared.SymKind.TheVariants.{Constructor}
use Rattle.dps_signature.specs.Signature.{Symbol, Name, Signature}
use Rattle.dps_signature.specs.Names.{IsSymbolText, IsDeclaredText, tuple_name, projection_name, symbol_named, name_named, with_symbol, with_name}
use Rattle.dps_scopes.specs.declared.meaning.Meaning.{Meaning}
use Rattle.dps_scopes.specs.declared.meaning.Meaning.TheVariants.{Name as a_name, Function as a_function, Unknown as unknown}
use Rattle.dps_scopes.specs.Definition.{Definition}
use Rattle.dps_scopes.specs.Scopes.{is_reserved, begins_as_projection, projections_from, tuple_symbols, tuple_at, named, function_or_named, declared_meaning}
use Rattle.dps_scopes.specs.Tuples.{AreUndeclared, KeepsTuples, HasSymbolsOf}
use Rattle.dps_scopes.proofs.FirstPlaces.{position-append, position_kept, position_nowhere, position_behind, position_one, position-cons}
use Rattle.dps_scopes.proofs.TupleTexts.{different, same, one_length, one_projection, no_tuple, free_of_tuples, free_of_projections, symbol_missing}

-- a text is declared as a symbol, or as a name
none_there : {X : Type 0} (o : Option X) → ¬ IsSome o → o ≡ None
none_there None h = refl
none_there (Some x) h = absurd (h refl)

not_there : {X : Type 0} (o : Option X) → o ≡ None → ¬ IsSome o
not_there None e h = cc
not_there (Some x) e h = cc

pub no_symbol : (s : Signature) (text : List ℕ) → ¬ IsDeclaredText s text → symbol_named s text ≡ None
no_symbol s text h = none_there (symbol_named s text) (λ k. h (inl k))

pub no_name : (s : Signature) (text : List ℕ) → ¬ IsDeclaredText s text → name_named s text ≡ None
no_name s text h = none_there (name_named s text) (λ k. h (inr k))

pub undeclared : (s : Signature) (text : List ℕ) → symbol_named s text ≡ None → name_named s text ≡ None → ¬ IsDeclaredText s text
undeclared s text e f = elim [ inl k ↦ not_there (symbol_named s text) e k | inr k ↦ not_there (name_named s text) f k ]

-- behind one more symbol or name with another text
pub undeclared_symbol : (s : Signature) (x : Symbol) (text : List ℕ) → bytes_eq text x.name ≡ false → ¬ IsDeclaredText s text → ¬ IsDeclaredText (with_symbol s x) text
undeclared_symbol s x text other h =
    undeclared (with_symbol s x) text
    (position_nowhere (λ y. bytes_eq text y.name) s.symbols (x ∷ []) (no_symbol s text h) (position_one (λ y. bytes_eq text y.name) x other))
    (no_name s text h)

pub undeclared_name : (s : Signature) (x : Name) (text : List ℕ) → bytes_eq text x.name ≡ false → ¬ IsDeclaredText s text → ¬ IsDeclaredText (with_name s x) text
undeclared_name s x text other h =
    undeclared (with_name s x) text
    (no_symbol s text h)
    (position_nowhere (λ y. bytes_eq text y.name) s.names (x ∷ []) (no_name s text h) (position_one (λ y. bytes_eq text y.name) x other))

-- what is no symbol's text behind more symbols was none before
no_symbol_before : (s : Signature) (more : List Symbol) (text : List ℕ) → position (λ x. bytes_eq text x.name) (s.symbols ++ more) ≡ None → symbol_named s text ≡ None
no_symbol_before s more text e = go (symbol_named s text) refl
  where
    go : (o : Option ℕ) → symbol_named s text ≡ o → o ≡ None
    go None d = refl
    go (Some i) d = absurd (none-some i (sym e ∙ position_kept (λ x. bytes_eq text x.name) s.symbols more i d))

-- tuples are kept together
pub nothing_declared : (s : Signature) → s ≡ record { symbols = []; names = [] } → KeepsTuples s
nothing_declared s e n none = record { tuple = nothing (tuple_name n); projections = λ i. nothing (projection_name i n) }
  where
    nothing : (text : List ℕ) → ¬ IsDeclaredText s text
    nothing text = subst (λ (t : Signature). ¬ IsDeclaredText t text) (sym e) (undeclared (record { symbols = []; names = [] }) text refl refl)

pub tuples_kept_symbol : (s after : Signature) (x : Symbol) → is_reserved x.name ≡ false → after ≡ with_symbol s x → KeepsTuples s → KeepsTuples after
tuples_kept_symbol s after x free e kept = subst KeepsTuples (sym e) (λ n none.
    let h = kept n (no_symbol_before s (x ∷ []) (tuple_name n) none) in
    record {
      tuple = undeclared_symbol s x (tuple_name n) (free_of_tuples x.name n free) h.tuple;
      projections = λ i. undeclared_symbol s x (projection_name i n) (free_of_projections x.name i n free) (h.projections i);
    })

pub tuples_kept_name : (s after : Signature) (x : Name) → is_reserved x.name ≡ false → after ≡ with_name s x → KeepsTuples s → KeepsTuples after
tuples_kept_name s after x free e kept = subst KeepsTuples (sym e) (λ n none.
    let h = kept n none in
    record {
      tuple = undeclared_name s x (tuple_name n) (free_of_tuples x.name n free) h.tuple;
      projections = λ i. undeclared_name s x (projection_name i n) (free_of_projections x.name i n free) (h.projections i);
    })

pub tuples_kept_tuple : (s after : Signature) (m : ℕ) → after ≡ (tuple_at s m None).signature → KeepsTuples s → KeepsTuples after
tuples_kept_tuple s after m e kept = subst KeepsTuples (sym e) (λ n none. each n none (cases_lt n m) (cases_lt m n))
  where
    found : {A : Type 0} → position (λ x. bytes_eq (tuple_name m) x.name) (s.symbols ++ tuple_symbols m) ≡ None → A
    found none =
        let before = no_symbol_before s (tuple_symbols m) (tuple_name m) none in
        let here =
        position-cons (λ (x : Symbol). bytes_eq (tuple_name m) x.name) (record { name = tuple_name m; kind = Constructor; arity = m }) (projections_from m 1 m)
        ∙ ap (λ b. cond b (Some 0) (option_map suc (position (λ (x : Symbol). bytes_eq (tuple_name m) x.name) (projections_from m 1 m)))) (same (tuple_name m)) in
        absurd (none-some (length s.symbols + 0) (sym none ∙ position_behind (λ x. bytes_eq (tuple_name m) x.name) s.symbols (tuple_symbols m) 0 before here))

    more : (text : List ℕ) → ¬ (text ≡ tuple_name m) → ((i : ℕ) → ¬ (text ≡ projection_name i m)) → ¬ IsDeclaredText s text → ¬ IsDeclaredText (tuple_at s m None).signature text
    more text t p h =
        undeclared (tuple_at s m None).signature text
        (position_nowhere (λ x. bytes_eq text x.name) s.symbols (tuple_symbols m) (no_symbol s text h) (symbol_missing text m t p))
        (no_name s text h)

    apart : (n : ℕ) → ¬ (n ≡ m) → symbol_named (tuple_at s m None).signature (tuple_name n) ≡ None → AreUndeclared (tuple_at s m None).signature n
    apart n other none =
        let h = kept n (no_symbol_before s (tuple_symbols m) (tuple_name n) none) in
        record {
          tuple = more (tuple_name n) (λ d. other (one_length n m d)) (λ i d. no_tuple n i m d) h.tuple;
          projections = λ i. more (projection_name i n) (λ d. no_tuple m i n (sym d)) (λ j d. other (one_projection i n j m d).1) (h.projections i);
        }

    each : (n : ℕ) → symbol_named (tuple_at s m None).signature (tuple_name n) ≡ None → (n < m) ⊎ (m ≤ n) → (m < n) ⊎ (n ≤ m) → AreUndeclared (tuple_at s m None).signature n
    each n none (inl l) r = apart n (λ d. omega (arith, d, l)) none
    each n none (inr l) (inl r) = apart n (λ d. omega (arith, d, r)) none
    each n none (inr l) (inr r) =
        let d : n ≡ m = omega arith in
        found (subst (λ k. position (λ x. bytes_eq (tuple_name k) x.name) (s.symbols ++ tuple_symbols m) ≡ None) d none)

-- what the declarations so far say of a text tells whether it is declared
abbrev pub IsNoDeclaration : Meaning → Type 0
IsNoDeclaration (a_function f n) = ⊥
IsNoDeclaration (a_name n is_private) = ⊥
IsNoDeclaration m = ⊤

module _ (s : Signature) (ds : List Definition) (text : List ℕ) where
  by_name : (o : Option ℕ) → name_named s text ≡ o → IsNoDeclaration (named s ds text o) → name_named s text ≡ None
  by_name (Some n) e h = absurd h
  by_name None e h = e

  by_symbol : (o : Option ℕ) → symbol_named s text ≡ o → IsNoDeclaration (function_or_named s ds text o) → ¬ IsDeclaredText s text
  by_symbol (Some f) e h = absurd h
  by_symbol None e h = undeclared s text e (by_name (name_named s text) refl h)

  pub not_declared : (m : Meaning) → m ≡ declared_meaning s ds text → IsNoDeclaration m → begins_as_projection text ≡ false → ¬ IsDeclaredText s text
  not_declared m is h plain =
      by_symbol (symbol_named s text) refl (on (begins_as_projection text) plain (subst IsNoDeclaration is h))
    where
      on : (b : Bool) → b ≡ false → IsNoDeclaration (if b then unknown else function_or_named s ds text (symbol_named s text)) → IsNoDeclaration (function_or_named s ds text (symbol_named s text))
      on true e h = cc
      on false e h = h
