-- Texts as a call writes them that is handed two rules, and how far the second one's variables are raised.
use Rattle.std.specs.Prelude.{ℕ, List}
use Rattle.dps_terms.specs.Tree.{Leaf, Tree}
use Rattle.dps_rules.specs.Bindings.{numbered_leaf_text, binding_text, binding_texts}
use Rattle.dps_rules.specs.declared.bindings.Naming.{Naming}

abbrev pub leaf_in : Naming → Leaf → List ℕ
leaf_in n x = numbered_leaf_text n.by n.first.now n.second.now n.signature.now x

abbrev pub binding_in : Naming → ℕ → Tree → List ℕ
binding_in n number t = binding_text n.by n.first.now n.second.now n.signature.now number t

abbrev pub bindings_in : Naming → List (ℕ × Tree) → List ℕ → List (List ℕ)
bindings_in n unifier numbers = binding_texts n.by n.first.now n.second.now n.signature.now unifier numbers
