-- The kinds and arities of a signature's symbols, taken one by one; a theory without a rule.
use Rattle.std.specs.Prelude.{◌≡◌, ℕ, zero, suc, ◌+◌, List, [], ◌∷◌, ◌++◌, map, take, slice_get, Some}
use Rattle.std.specs.Option.{option_map}
use Rattle.std.proofs.Common.{ap, arith, refl, add-one}
use Rattle.std.proofs.lemmas.List.{map-append}
use Rattle.std.proofs.lemmas.Option.{none-some}
use Rattle.dps_signature.specs.Signature.{Shape, Symbol, shape_of}
use Rattle.dps_theory.specs.Theory.{Rule, Theory, HasRule}
use Rattle.dps_theory.specs.declared.shapes.SymbolShape.{SymbolShape}
use Rattle.dps_theory.specs.Held.{shape_of as kept_shape, IsKept}

-- one more symbol
take_next :
    (symbols : List Symbol) (n : ℕ) (s : SymbolShape) → option_map (λ a. a.kind) (slice_get symbols n) ≡ Some s.kind
    → option_map (λ a. a.arity) (slice_get symbols n) ≡ Some s.arity
    → take (suc n) (map shape_of symbols) ≡ take n (map shape_of symbols) ++ record { kind = s.kind; arity = s.arity } ∷ []
take_next [] n s k a = absurd (none-some s.kind k)
take_next (x ∷ xs) zero s k a = let same_kind : x.kind ≡ s.kind = cc in let same_arity : x.arity ≡ s.arity = cc in λ i. record { kind = same_kind i; arity = same_arity i } ∷ []
take_next (x ∷ xs) (suc n) s k a = ap (λ r. shape_of x ∷ r) (take_next xs n s k a)

-- one more symbol behind those that were taken
pub taken_next :
    (symbols : List Symbol) (found : List SymbolShape) (n : ℕ) (s : SymbolShape) → map kept_shape found ≡ take n (map shape_of symbols)
    → option_map (λ a. a.kind) (slice_get symbols n) ≡ Some s.kind → option_map (λ a. a.arity) (slice_get symbols n) ≡ Some s.arity
    → map kept_shape (found ++ s ∷ []) ≡ take (n + 1) (map shape_of symbols)
taken_next symbols found n s done k a = rw (map-append kept_shape found (s ∷ []), add-one n, take_next symbols n s k a, done) refl

-- a theory without rules
abbrev unruled : List Shape → Theory
unruled shapes = record { shapes = shapes; rules = [] }

none_listed : (shapes : List Shape) (r : Rule) → HasRule (unruled shapes) r → ⊥
none_listed shapes r (k, below, at) = omega arith

pub unruled_is_kept : (shapes : List Shape) → IsKept (unruled shapes)
unruled_is_kept shapes = record {
  accepted = record {
    root = λ r h. absurd (none_listed shapes r h);
    arguments = λ r h. absurd (none_listed shapes r h);
    constructed = λ r h. absurd (none_listed shapes r h);
    bounded = λ r h. absurd (none_listed shapes r h);
    agreeing = λ r q h _. absurd (none_listed shapes r h);
  };
  plain = record {
    left = λ r h. absurd (none_listed shapes r h);
    right = λ r h. absurd (none_listed shapes r h);
  };
}
