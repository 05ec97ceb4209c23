-- How a common instance of the left sides of two rules is written.
use Rattle.std.specs.Prelude.{ℕ, ◌+◌, ◌-◌, nat_lt, if◌then◌else◌, List, [], ◌∷◌, ◌++◌, map, Option, Some, None, slice_get, unwrap_or, codes}
use Rattle.dps_terms.specs.Tree.{Leaf, var, Tree}
use Rattle.dps_signature.specs.Signature.{Signature}
use Rattle.dps_terms.specs.Variables.{variables}
use Rattle.dps_terms.specs.Bindings.{bound}
use Rattle.dps_signature.specs.Text.{leaf_text, text_with}
use Rattle.dps_theory.specs.Overlaps.{room}
use Rattle.dps_names.specs.Program.{WrittenRule}

-- The text of the rule's variable with this number.
abbrev pub variable_text : WrittenRule → ℕ → List ℕ
variable_text r n = unwrap_or (slice_get r.variables n) []

-- Two rules are looked at together: the variables of the second are raised by so much.
module _ (by : ℕ) (first second : WrittenRule) where
  -- `1.x` or `2.x`
  abbrev pub numbered_text : ℕ → List ℕ
  numbered_text n = if nat_lt n by then codes "1." ++ variable_text first n else codes "2." ++ variable_text second (n - by)

  -- all variables of the left sides: those of the first rule before those of the second, each by first occurrence
  abbrev pub both_variables : List ℕ
  both_variables = variables first.rule.left ++ map (λ n. n + by) (variables second.rule.left)

  module _ (signature : Signature) where
    -- a variable in this way, and each other leaf as in every term
    abbrev pub numbered_leaf_text : Leaf → List ℕ
    numbered_leaf_text (var n) = numbered_text n
    numbered_leaf_text x = leaf_text signature x

    abbrev pub numbered_term_text : Tree → List ℕ
    numbered_term_text t = text_with numbered_leaf_text signature t

    -- `1.x=t`, where something is bound to the variable
    abbrev pub binding_text : ℕ → Tree → List ℕ
    binding_text n t = numbered_text n ++ (codes "=" ++ numbered_term_text t)

    abbrev pub and_binding : ℕ → Option Tree → List (List ℕ) → List (List ℕ)
    and_binding n None texts = texts
    and_binding n (Some t) texts = binding_text n t ∷ texts

    -- the bindings of some variables
    abbrev pub binding_texts : List (ℕ × Tree) → List ℕ → List (List ℕ)
    binding_texts unifier [] = []
    binding_texts unifier (n ∷ ns) = and_binding n (bound unifier n) (binding_texts unifier ns)

-- texts with commas between them, and `nothing` where there is none
abbrev pub behind_commas : List (List ℕ) → List ℕ
behind_commas [] = []
behind_commas (text ∷ texts) = codes ", " ++ (text ++ behind_commas texts)

abbrev pub listed_text : List (List ℕ) → List ℕ
listed_text [] = codes "nothing"
listed_text (text ∷ texts) = text ++ behind_commas texts

-- The list of bindings of a unifier of two rules: `1.x=t`, `2.y=u`.
abbrev pub bindings_text : Signature → WrittenRule → WrittenRule → List (ℕ × Tree) → List ℕ
bindings_text signature first second unifier =
    let by = room first.rule in
    listed_text (binding_texts by first second signature unifier (both_variables by first second))
