-- How the word of a node is made.
use Rattle.std.proofs.Common.{◌≡◌, ℕ, ◌+◌, ◌<◌, List, [], ◌∷◌, ◌++◌, true, Some, None, length, get_or, take, filter, filter_map, map, nat_eq, refl, ap, sym, ◌∙◌}
use Rattle.std.specs.List.{flat_map, position}
use Rattle.std.proofs.lemmas.Iterator.Adapters.{position_from-zero}
use Rattle.std.proofs.Math.Dec.{eqb}
use Rattle.std.proofs.lemmas.List.{map-append}
use Rattle.dps_terms.specs.Tree.{var, Tree, leaf}
use Rattle.dps_terms.specs.Replace.{substitute}
use Rattle.dps_terms.specs.Variables.{occurrences, each_once}
use Rattle.dps_process.specs.Steps.{Label}
use Rattle.dps_process.specs.Labels.{label_of}
use Rattle.dps_process.specs.declared.label.Label.{Label as LabelValue}
use Rattle.dps_node.specs.Node.{Node, label_tree, label_under}
use Rattle.dps_renewal.specs.Numbering.{counted_as, as_own_name}
use Rattle.dps_node.specs.Words.{word_recipes, names_for, ground_word}
use Rattle.dps_renewal.proofs.EachOnce.{one_more}
use Rattle.dps_renewal.proofs.Counted.{at_place, at_none}

all_pass : (xs : List ℕ) → filter (λ y. true) xs ≡ xs
all_pass [] = refl
all_pass (x ∷ xs) = ap (λ ys. x ∷ ys) (all_pass xs)

-- the names are those of the word's variables
pub names_are_those : (word : List Label) → counted_as as_own_name 1 (each_once (flat_map occurrences (filter_map label_tree word))) ≡ names_for word
names_are_those word = ap (counted_as as_own_name 1) (sym (all_pass (each_once (flat_map occurrences (filter_map label_tree word)))))

-- one label more
pub labels_more_under :
    (f : Tree → Tree) (ls : List LabelValue) (i : ℕ) (d : LabelValue) → i < length ls
    → map (label_under f) (map label_of (take (i + 1) ls)) ≡ map (label_under f) (map label_of (take i ls)) ++ label_under f (label_of (get_or ls i d)) ∷ []
labels_more_under f ls i d h =
    ap (λ xs. map (label_under f) (map label_of xs)) (one_more ls i d h)
    ∙ ap (map (label_under f)) (map-append label_of (take i ls) (get_or ls i d ∷ []))
    ∙ map-append (label_under f) (map label_of (take i ls)) (label_of (get_or ls i d) ∷ [])

-- a variable at a place of the list gets the number of the place, and others stay
pub placed : (xs : List ℕ) (y i : ℕ) → position (nat_eq y) xs ≡ Some i → counted_as as_own_name 1 xs y ≡ as_own_name (1 + i)
placed xs y i e = at_place as_own_name 1 0 xs y i (sym (position_from-zero (nat_eq y) xs) ∙ e)

pub not_placed : (xs : List ℕ) (y : ℕ) → position (nat_eq y) xs ≡ None → counted_as as_own_name 1 xs y ≡ leaf (var y)
not_placed xs y e = at_none as_own_name 1 0 xs y (sym (position_from-zero (nat_eq y) xs) ∙ e)

-- the word by its recipes, the variables that stand in them, and the names
pub word_named :
    (node : Node) (recipes : List Label) (keys : List ℕ) (word : List Label) → recipes ≡ word_recipes node
    → keys ≡ each_once (flat_map occurrences (filter_map label_tree recipes))
    → word ≡ map (label_under (substitute (counted_as as_own_name 1 keys))) recipes → word ≡ ground_word node
word_named node recipes keys word r k w =
    w
    ∙ ap (λ f. map (label_under (substitute f)) recipes) (ap (counted_as as_own_name 1) k ∙ names_are_those recipes)
    ∙ ap (λ ls. map (label_under (substitute (names_for ls))) ls) r
