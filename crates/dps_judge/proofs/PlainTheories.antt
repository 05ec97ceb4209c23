-- Without tuples there are no projections.
use Rattle.std.proofs.Common.{◌≡◌, ℕ, ◌+◌, Bool, true, false, ◌&&◌, eqb, List, [], ◌∷◌, ◌++◌, Option, Some, None, get_or, refl, sym, ap, subst, ◌∙◌}
use Rattle.std.specs.Prelude.{map, position}
use Rattle.std.specs.List.{All}
use Rattle.std.specs.Str.{byte, bytes_eq}
use Rattle.std.proofs.lemmas.Bool.{eqb-true}
use Rattle.std.proofs.lemmas.List.Elements.{All-weaker}
use Rattle.std.proofs.lemmas.List.Quantifiers.{position-Some}
use Rattle.dps_signature.specs.Signature.{Signature, shapes}
use Rattle.dps_signature.specs.Names.{tuple_name}
use Rattle.dps_theory.specs.Theory.{Rule}
use Rattle.dps_scopes.specs.Scopes.{is_word}
use Rattle.dps_names.specs.Program.{Program}
use Rattle.std.specs.List.{flat_map, range_with_len}
use Rattle.dps_theory.specs.Projections.{rules_for, projections_of, projections}
use Rattle.dps_rules.specs.Rules.{theory_of}
use Rattle.dps_judge.proofs.PlainPrograms.{IsPlainSymbol, IsPlainProgram}

position_none : {X : Type 0} (p : X → Bool) (xs : List X) → All (λ x. p x ≡ false) xs → position p xs ≡ None
position_none p [] h = refl
position_none {X} p (x ∷ xs) h = by_case (position p (x ∷ xs)) refl
  where
    by_case : (o : Option ℕ) → position p (x ∷ xs) ≡ o → position p (x ∷ xs) ≡ None
    by_case None e = e
    by_case (Some i) e =
        let s = position-Some p (x ∷ xs) i x e in
        let passes : p (get_or (x ∷ xs) i x) ≡ true = s.1 in
        let fails : p (get_or (x ∷ xs) i x) ≡ false = h i x s.0 in
        cc

-- the name of a tuple begins with a bracket, and a word with a letter
starts_apart : (c b : ℕ) (rest more : List ℕ) → eqb c b ≡ false → bytes_eq (c ∷ rest) (b ∷ more) ≡ false
starts_apart c b rest more e = ap (λ x. x && bytes_eq rest more) e

no_tuple : (n : ℕ) (text : List ℕ) → is_word text ≡ true → bytes_eq (tuple_name n) text ≡ false
no_tuple n [] w = cc
no_tuple n (b ∷ bs) w = by_case (eqb 40 b) refl
  where
    by_case : (c : Bool) → eqb 40 b ≡ c → bytes_eq (tuple_name n) (b ∷ bs) ≡ false
    by_case false e = starts_apart 40 b ((byte "0" + n) ∷ byte ")" ∷ []) bs e
    by_case true e =
        let same : 40 ≡ b = eqb-true 40 b e in
        let clash : is_word (40 ∷ bs) ≡ true = subst (λ x. is_word (x ∷ bs) ≡ true) (sym same) w in
        cc

untupled : (signature : Signature) (n : ℕ) → All IsPlainSymbol signature.symbols → projections_of signature n ≡ []
untupled signature n all =
    ap (rules_for signature n)
    (position_none (λ s. bytes_eq (tuple_name n) s.name) signature.symbols
    (All-weaker IsPlainSymbol (λ s. bytes_eq (tuple_name n) s.name ≡ false) (λ s h. no_tuple n s.name h.word) signature.symbols all))

nothing_of_all : (f : ℕ → List Rule) (xs : List ℕ) → ((n : ℕ) → f n ≡ []) → flat_map f xs ≡ []
nothing_of_all f [] e = refl
nothing_of_all f (x ∷ xs) e = ap (λ ys. ys ++ flat_map f xs) (e x) ∙ nothing_of_all f xs e

no_projections : (signature : Signature) → All IsPlainSymbol signature.symbols → projections signature ≡ []
no_projections signature all = nothing_of_all (projections_of signature) (range_with_len 2 7) (λ n. untupled signature n all)

pub unruled : (program : Program) → IsPlainProgram program → theory_of program ≡ record { shapes = shapes program.signature; rules = [] }
unruled program plain =
    let rules : projections program.signature ++ map (λ r. r.rule) program.rules ≡ [] = ap (λ x. x ++ map (λ r. r.rule) program.rules) (no_projections program.signature plain.symbols)
    ∙ ap (λ x. map (λ r. r.rule) x) plain.rules in
    λ i. record { shapes = shapes program.signature; rules = rules i }
