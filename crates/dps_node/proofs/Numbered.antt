-- How the variables of a node are found.
use Rattle.std.proofs.Common.{◌≡◌, ℕ, ◌+◌, ◌<◌, List, [], ◌∷◌, ◌++◌, Bool, length, get_or, take, drop, filter, filter_map, map, nat_eq, ap, sym, ◌∙◌, add-one, drop-cons, append_assoc, suc}
use Rattle.std.specs.List.{flat_map}
use Rattle.std.proofs.lemmas.Grind.{flat_map-append}
use Rattle.std.proofs.lemmas.List.{map-append, append-nil}
use Rattle.std.proofs.lemmas.List.Elements.{filter-append, filter_map-append}
use Rattle.indexmap.specs.IndexSet.{insert_all}
use Rattle.dps_terms.specs.Variables.{occurrences, each_once}
use Rattle.dps_process.specs.Steps.{Label, inputs, outputs, overhears}
use Rattle.dps_process.specs.Labels.{label_of}
use Rattle.dps_process.specs.declared.label.Label.{Label as LabelValue}
use Rattle.dps_node.specs.Code.{label_variables}
use Rattle.dps_node.specs.Node.{Node, label_tree, label_trees, numbered_from, variables_of}
use Rattle.dps_renewal.specs.Numbering.{is_among}
use Rattle.dps_renewal.proofs.EachOnce.{once_more, among_once, one_more}

-- the next number with its level
pub next_level :
    (P : ℕ × ℕ → Bool) (levels : List ℕ) (i d : ℕ) → i < length levels
    → filter P (numbered_from (i + 1) (drop i levels)) ≡ filter P ((i + 1, get_or levels i d) ∷ []) ++ filter P (numbered_from ((i + 1) + 1) (drop (i + 1) levels))
next_level P levels i d h =
    ap (λ xs. filter P (numbered_from (i + 1) xs)) (drop-cons levels i d h)
    ∙ filter-append P ((i + 1, get_or levels i d) ∷ []) (numbered_from ((i + 1) + 1) (drop (suc i) levels))
    ∙ ap (λ n. filter P ((i + 1, get_or levels i d) ∷ []) ++ filter P (numbered_from ((i + 1) + 1) (drop n levels))) (sym (add-one i))

-- what is found so far, and what is left to find
pub level_found : (P : ℕ × ℕ → Bool) (levels : List ℕ) (found more : List (ℕ × ℕ)) (i d : ℕ) → i < length levels
    → more ≡ found ++ filter P ((i + 1, get_or levels i d) ∷ [])
    → found ++ filter P (numbered_from (i + 1) (drop i levels)) ≡ filter P (numbered_from 1 levels)
    → more ++ filter P (numbered_from ((i + 1) + 1) (drop (i + 1) levels)) ≡ filter P (numbered_from 1 levels)
level_found P levels found more i d h e f =
    ap (λ xs. xs ++ filter P (numbered_from ((i + 1) + 1) (drop (i + 1) levels))) e
    ∙ append_assoc found (filter P ((i + 1, get_or levels i d) ∷ [])) (filter P (numbered_from ((i + 1) + 1) (drop (i + 1) levels)))
    ∙ ap (λ xs. found ++ xs) (sym (next_level P levels i d h))
    ∙ f

-- the variables of the trees of labels
abbrev pub of_labels : List Label → List ℕ
of_labels ls = flat_map occurrences (filter_map label_tree ls)

of_labels_more : (ls : List Label) (l : Label) → of_labels (ls ++ l ∷ []) ≡ of_labels ls ++ of_labels (l ∷ [])
of_labels_more ls l = ap (flat_map occurrences) (filter_map-append label_tree ls (l ∷ [])) ∙ flat_map-append occurrences (filter_map label_tree ls) (filter_map label_tree (l ∷ []))

pub labels_more :
    (ls : List LabelValue) (i : ℕ) (d : LabelValue) → i < length ls
    → of_labels (map label_of (take (i + 1) ls)) ≡ of_labels (map label_of (take i ls)) ++ of_labels (label_of (get_or ls i d) ∷ [])
labels_more ls i d h =
    ap (λ xs. of_labels (map label_of xs)) (one_more ls i d h)
    ∙ ap of_labels (map-append label_of (take i ls) (get_or ls i d ∷ []))
    ∙ of_labels_more (map label_of (take i ls)) (label_of (get_or ls i d))

-- a label adds the variables of its tree
label_adds : (xs : List ℕ) (l : Label) → insert_all nat_eq (each_once xs) (label_variables l) ≡ each_once (xs ++ of_labels (l ∷ []))
label_adds xs (inputs c t) = once_more xs (occurrences t) ∙ ap (λ ys. each_once (xs ++ ys)) (sym (append-nil (occurrences t)))
label_adds xs (outputs c j) = ap each_once (sym (append-nil xs))
label_adds xs (overhears c j) = ap each_once (sym (append-nil xs))

pub next_label :
    (ls : List LabelValue) (i : ℕ) (d : LabelValue) → i < length ls
    → insert_all nat_eq (each_once (of_labels (map label_of (take i ls)))) (label_variables (label_of (get_or ls i d))) ≡ each_once (of_labels (map label_of (take (i + 1) ls)))
next_label ls i d h = label_adds (of_labels (map label_of (take i ls))) (label_of (get_or ls i d)) ∙ ap each_once (sym (labels_more ls i d h))

filter_alike : {A : Type 0} (p q : A → Bool) (xs : List A) → ((x : A) → p x ≡ q x) → filter p xs ≡ filter q xs
filter_alike p q xs h = ap (λ t. filter t xs) (λ i x. h x i)

-- what is found by the numbers, each once, is what stands in the trees
pub levels_of_those : (node : Node) → filter (λ (p : ℕ × ℕ). is_among p.0 (each_once (flat_map occurrences (label_trees node)))) (numbered_from 1 node.levels) ≡ variables_of node
levels_of_those node = filter_alike _ _ (numbered_from 1 node.levels) (λ p. among_once p.0 (flat_map occurrences (label_trees node)))

-- the trees of one label more
pub label_trees_more : (ls : List LabelValue) (i : ℕ) (d : LabelValue) → i < length ls
    → filter_map label_tree (map label_of (take (i + 1) ls)) ≡ filter_map label_tree (map label_of (take i ls)) ++ filter_map label_tree (label_of (get_or ls i d) ∷ [])
label_trees_more ls i d h =
    ap (λ xs. filter_map label_tree (map label_of xs)) (one_more ls i d h)
    ∙ ap (filter_map label_tree) (map-append label_of (take i ls) (get_or ls i d ∷ []))
    ∙ filter_map-append label_tree (map label_of (take i ls)) (label_of (get_or ls i d) ∷ [])
