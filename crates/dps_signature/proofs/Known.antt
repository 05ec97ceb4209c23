-- What a look-up tells of a symbol's arity and of a name.
use Rattle.std.proofs.Common.{◌≡◌, ℕ, List, map, slice_get, Some, None, ap, sym, ◌∙◌}
use Rattle.std.specs.Prelude.{◌↔◌}
use Rattle.std.specs.Option.{option_map}
use Rattle.std.proofs.lemmas.Option.{slice_get-map, none-some}
use Rattle.dps_terms.specs.declared.Sym.{Sym}
use Rattle.dps_signature.specs.Signature.{Symbol, Shape, HasArity, shape_of}

pub arity_told : (symbols : List Symbol) (f : Sym) (s : Symbol) (n : ℕ) → slice_get symbols f.number ≡ Some s → (s.arity ≡ n) ↔ HasArity (map shape_of symbols) f n
arity_told symbols f s n e = (λ m. (s.kind, there ∙ ap (λ (k : ℕ). Some (record { kind = s.kind; arity = k })) m), λ h. same (shape_of s) (record { kind = h.0; arity = n }) (sym there ∙ h.1))
  where
    there : slice_get (map shape_of symbols) f.number ≡ Some (shape_of s)
    there = slice_get-map shape_of symbols f.number ∙ ap (option_map shape_of) e

    same : (x y : Shape) → Some x ≡ Some y → x.arity ≡ y.arity
    same x y q = let r : x ≡ y = cc in ap (λ (z : Shape). z.arity) r

pub no_arity : (symbols : List Symbol) (f : Sym) (n : ℕ) → slice_get symbols f.number ≡ None → HasArity (map shape_of symbols) f n → ⊥
no_arity symbols f n e h =
    let k = sym (slice_get-map shape_of symbols f.number ∙ ap (option_map shape_of) e) ∙ h.1 in none-some _ k
