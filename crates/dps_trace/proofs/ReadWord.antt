-- A word before what was read: a symbol over the terms behind it, or a leaf.
use Rattle.std.proofs.Common.{◌≡◌, ℕ, true, false, List, Option, Some, None, refl, ap, ◌∙◌, arith, if◌then◌else◌}
use Rattle.std.specs.Prelude.{◌==◌}
use Rattle.std.proofs.lemmas.Bool.Decides.{nat_tests}
use Rattle.dps_terms.specs.Tree.{Leaf}
use Rattle.dps_signature.specs.Signature.{Signature}
use Rattle.dps_trace.specs.Scanning.{Reading, with_word, with_leaf, or_leaf, applied, symbol_read, leaf_read}

module _ (S : Signature) (w : List ℕ) (r : Reading) where
  by_symbol : (x : Option Leaf) (y : Option ℕ) → y ≡ symbol_read S w r.arity → x ≡ leaf_read S w → or_leaf S w r y x ≡ with_word S w r
  by_symbol x y e f = ap (λ z. or_leaf S w r z x) e ∙ ap (λ z. or_leaf S w r (symbol_read S w r.arity) z) f

  -- a symbol
  pub symbol_before : (f : ℕ) (x : Option Reading) → Some f ≡ symbol_read S w r.arity → x ≡ applied r (Some f) → x ≡ with_word S w r
  symbol_before f x e k = k ∙ by_symbol (leaf_read S w) (Some f) e refl

  -- no symbol, though a bracket comes behind the word
  pub no_symbol_before : None ≡ symbol_read S w r.arity → (r.arity ≡ 0 → ⊥) → None ≡ with_word S w r
  no_symbol_before e some = none (leaf_read S w) ∙ by_symbol (leaf_read S w) None e refl
    where
      none : (x : Option Leaf) → None ≡ or_leaf S w r None x
      none None = refl
      none (Some x) = ap (λ c. if c then Some (with_leaf r x) else None) (let t : false ≡ (r.arity == 0) = grind (arith, nat_tests, some) in t)

  -- a leaf
  pub leaf_before : (x : Leaf) (next : Reading) → None ≡ symbol_read S w r.arity → r.arity ≡ 0 → Some x ≡ leaf_read S w → next ≡ with_leaf r x → Some next ≡ with_word S w r
  leaf_before x next e zero f k =
      ap (λ n. Some n) k
      ∙ ap (λ c. if c then Some (with_leaf r x) else None) (let t : true ≡ (r.arity == 0) = grind (arith, nat_tests, zero) in t)
      ∙ by_symbol (Some x) None e f

  -- neither
  pub nothing_before : None ≡ symbol_read S w r.arity → None ≡ leaf_read S w → None ≡ with_word S w r
  nothing_before e f = by_symbol None None e f

pub ruleset for_read_word = (symbol_before, no_symbol_before, leaf_before, nothing_before)
