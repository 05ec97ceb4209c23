-- The word of a node as it is printed: with recipes, and with names for what the attacker is free to choose.
use Rattle.std.specs.Prelude.{ℕ, true, List, map, filter_map}
use Rattle.dps_terms.specs.Tree.{Tree}
use Rattle.dps_terms.specs.Replace.{substitute}
use Rattle.dps_process.specs.Steps.{Label}
use Rattle.dps_know.specs.Know.{recipe_of}
use Rattle.dps_renewal.specs.Numbering.{counted_as, as_own_name, variables_in}
use Rattle.dps_node.specs.Node.{Node, label_tree, label_under}

-- the word of a node with its recipes
abbrev pub word_recipes : Node → List Label
word_recipes node = map (label_under (recipe_of node.know)) node.labels

-- the attacker's names `@1`, `@2` and so on for its variables, by first occurrence in the word
abbrev pub names_for : List Label → ℕ → Tree
names_for word = counted_as as_own_name 1 (variables_in (λ y. true) (filter_map label_tree word))

abbrev pub fresh_names : Node → ℕ → Tree
fresh_names node = names_for (word_recipes node)

abbrev pub ground_word : Node → List Label
ground_word node = map (label_under (substitute (fresh_names node))) (word_recipes node)
