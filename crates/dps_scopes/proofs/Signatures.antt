-- What a signature's names and symbols come to, one by one.
use Rattle.std.proofs.Common.{◌≡◌, ◌≤◌, ◌<◌, ◌^◌, ℕ, zero, suc, ◌+◌, ◌-◌, List, [], ◌∷◌, ◌++◌, length, length-append, refl, sym, ap, subst, ◌∙◌, arith, append_assoc}
use Rattle.std.proofs.lemmas.List.{append-nil}
use Rattle.dps_signature.specs.Signature.{Symbol, Signature}
use Rattle.dps_signature.specs.Names.{IsDeclaredText, projection_name, with_symbol}
use Rattle.dps_signature.specs.declared.SymKind.TheVariants.{Destructor}
use Rattle.dps_scopes.specs.Scopes.{projections_from}
use Rattle.dps_scopes.specs.Tuples.{HasSymbolsOf}
use Rattle.dps_scopes.proofs.TupleTexts.{different, one_projection, projection_symbol}
use Rattle.dps_scopes.proofs.Undeclared.{undeclared_symbol}

projections_from-suc : (n i k : ℕ) → projections_from n i (suc k) ≡ projections_from n i k ++ projection_symbol n (i + k) ∷ []
projections_from-suc n i zero = ap (λ j. projection_symbol n j ∷ []) (omega arith)
projections_from-suc n i (suc k) =
    let one : (i + 1) + k ≡ i + suc k = omega arith in
    ap (λ r. projection_symbol n i ∷ r) (projections_from-suc n (i + 1) k ∙ ap (λ j. projections_from n (i + 1) k ++ projection_symbol n j ∷ []) one)

-- the next projection
pub projections_from-next : (n k : ℕ) → projections_from n 1 (k + 1) ≡ projections_from n 1 k ++ projection_symbol n (k + 1) ∷ []
projections_from-next n k =
    let one : 1 + k ≡ k + 1 = omega arith in
    let next : k + 1 ≡ suc k = omega arith in
    ap (λ j. projections_from n 1 j) next ∙ (projections_from-suc n 1 k ∙ ap (λ j. projections_from n 1 k ++ projection_symbol n j ∷ []) one)

-- What the loop keeps: the first projections stand behind the symbols that were there, the others are not declared, and there
-- is room for them.
pub record HasFirstProjections (n next : ℕ) (old now : Signature) : Type 0 where
  pub symbols : now.symbols ≡ old.symbols ++ projections_from n 1 (next - 1)
  pub names : now.names ≡ old.names
  pub fresh : (i : ℕ) → next ≤ i → ¬ IsDeclaredText now (projection_name i n)
  pub room : length now.symbols + n + 1 ≤ 2 ^ 24 + next
  pub few_names : length now.names < 2 ^ 24

pub projections_first : (n : ℕ) (s : Signature) → ((i : ℕ) → ¬ IsDeclaredText s (projection_name i n)) → length s.symbols + n ≤ 2 ^ 24 → length s.names < 2 ^ 24 → HasFirstProjections n 1 s s
projections_first n s fresh room few =
    record { symbols = sym (append-nil s.symbols); names = refl; fresh = λ i _. fresh i; room = omega (arith, room); few_names = few }

pub projections_more :
    (n i : ℕ) (old now next : Signature) (text bytes : List ℕ) → HasFirstProjections n i old now → 1 ≤ i → bytes ≡ projection_name i n → text ≡ bytes
    → next ≡ with_symbol now (record { name = text; kind = Destructor; arity = 1 }) → HasFirstProjections n (i + 1) old next
projections_more n i old now next text bytes h low f g w =
    let e = g ∙ f in
    let before : (i - 1) + 1 ≡ i = omega arith in
    let behind : (i + 1) - 1 ≡ (i - 1) + 1 = omega arith in
    let is : next ≡ with_symbol now (projection_symbol n i) = w ∙ ap (λ t. with_symbol now (record { name = t; kind = Destructor; arity = 1 })) e in
    record {
      symbols =
          ap (λ (s : Signature). s.symbols) is
          ∙ (ap (λ xs. xs ++ projection_symbol n i ∷ []) h.symbols
          ∙ (append_assoc old.symbols (projections_from n 1 (i - 1)) (projection_symbol n i ∷ [])
          ∙ ap (λ xs. old.symbols ++ xs)
          (ap (λ j. projections_from n 1 (i - 1) ++ projection_symbol n j ∷ []) (sym before) ∙ (sym (projections_from-next n (i - 1)) ∙ ap (projections_from n 1) (sym behind)))));
      names = ap (λ (s : Signature). s.names) is ∙ h.names;
      fresh = λ j l.
          subst (λ (s : Signature). ¬ IsDeclaredText s (projection_name j n)) (sym is)
          (undeclared_symbol now (projection_symbol n i) (projection_name j n)
          (different (projection_name j n) (projection_name i n) (λ d. let k = (one_projection j n i n d).0 in omega (arith, l, k)))
          (h.fresh j (omega (arith, l))));
      room = omega (arith, h.room, ap (λ (s : Signature). length s.symbols) is, length-append now.symbols (projection_symbol n i ∷ []));
      few_names = subst (λ (s : Signature). length s.names < 2 ^ 24) (sym is) h.few_names;
    }

pub projections_last : (n i : ℕ) (old now : Signature) → HasFirstProjections n i old now → i ≡ n + 1 → now ≡ record { symbols = old.symbols ++ projections_from n 1 n; names = old.names }
projections_last n i old now h e =
    let all : i - 1 ≡ n = omega (arith, e) in
    let symbols = h.symbols ∙ ap (λ k. old.symbols ++ projections_from n 1 k) all in
    λ j. record { symbols = symbols j; names = h.names j }

-- where memory runs out
pub first_symbols : (n i : ℕ) (old now : Signature) → HasFirstProjections n i old now → HasSymbolsOf old now
first_symbols n i old now h = record { more = projections_from n 1 (i - 1); symbols = h.symbols; names = h.names }

-- the next one is not declared, and fits
pub next_fresh : (n i : ℕ) (old now : Signature) → HasFirstProjections n i old now → ¬ IsDeclaredText now (projection_name i n)
next_fresh n i old now h = h.fresh i (omega arith)

pub ruleset for_projections = (projections_first, projections_more, projections_last, first_symbols, next_fresh)
