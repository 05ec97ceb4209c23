-- The rules of the projections of tuples.
use Rattle.std.specs.Prelude.{◌≡◌, ◌≤◌, ◌+◌, ℕ, List, [], ◌∷◌, ◌++◌, map, Option, Some, None, unwrap_or}
use Rattle.std.specs.List.{range_with_len, flat_map}
use Rattle.dps_terms.specs.declared.Sym.{Sym}
use Rattle.dps_signature.specs.declared.SymKind.TheVariants.{Constructor, Destructor}
use Rattle.dps_terms.specs.Tree.{Tree, leaf, var, app, none, more, trees}
use Rattle.dps_signature.specs.Signature.{Signature, HasShape, shapes}
use Rattle.dps_signature.specs.Names.{tuple_name, projection_name, symbol_named}
use Rattle.dps_theory.specs.Theory.{Rule}

-- the symbol with this text
abbrev pub symbol_with : Signature → List ℕ → Sym
symbol_with signature text = record { number = unwrap_or (symbol_named signature text) 0 }

-- `(x1,..,xn)`
abbrev pub tuple_of : Sym → ℕ → Tree
tuple_of f n = app f (trees (map (λ i. leaf (var i)) (range_with_len 1 n)))

-- `proj_i_n((x1,..,xn)) -> xi`
abbrev pub projection_rule : Signature → Sym → ℕ → ℕ → Rule
projection_rule signature f n i =
    record { left = app (symbol_with signature (projection_name i n)) (more (tuple_of f n) none); right = leaf (var i) }

abbrev pub rules_for : Signature → ℕ → Option ℕ → List Rule
rules_for signature n None = []
rules_for signature n (Some f) = map (projection_rule signature (record { number = f }) n) (range_with_len 1 n)

-- the rules of the tuples of length n, where these have a symbol
abbrev pub projections_of : Signature → ℕ → List Rule
projections_of signature n = rules_for signature n (symbol_named signature (tuple_name n))

-- the rules of all tuples, from length 2 to length 8
abbrev pub projections : Signature → List Rule
projections signature = flat_map (projections_of signature) (range_with_len 2 7)

-- the symbol of the tuples of each length that has one is a constructor of that arity, and its projections are there, as
-- destructors of arity 1
pub record HasProjections (signature : Signature) : Type 0 where
  pub tuples :
      (n f : ℕ) → 2 ≤ n → n ≤ 8 → symbol_named signature (tuple_name n) ≡ Some f
      → HasShape (shapes signature) Constructor (record { number = f }) n
  pub destructors :
      (n f i : ℕ) → 2 ≤ n → n ≤ 8 → symbol_named signature (tuple_name n) ≡ Some f → 1 ≤ i → i ≤ n
      → (g : ℕ) × (symbol_named signature (projection_name i n) ≡ Some g) × HasShape (shapes signature) Destructor (record { number = g }) 1
