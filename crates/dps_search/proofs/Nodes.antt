-- The variables of a term, node by node.
use Rattle.std.proofs.Common.{◌≡◌, ℕ, ◌+◌, List, [], ◌∷◌, ◌++◌, length, take, drop, Contains, refl, sym, ◌∙◌, ap, subst}
use Rattle.std.specs.List.{flat_map}
use Rattle.std.proofs.lemmas.Grind.{flat_map-append}
use Rattle.std.proofs.lemmas.List.{take-append-drop, append-nil}
use Rattle.dps_terms.specs.declared.borrowed.TermView.TheVariants.{Var}
use Rattle.dps_terms.specs.Tree.{public, private, var, ax, entry, rigid, Tree, Trees, leaf, app, none, more, list_of}
use Rattle.dps_terms.specs.Kinds.{IsClosed}
use Rattle.dps_terms.specs.Variables.{occurrences, all_occurrences, each_once, variables}
use Rattle.dps_terms.specs.Views.{view_of, arguments}
use Rattle.dps_terms.specs.Walk.{subterms_from}
use Rattle.dps_terms.proofs.Building.{closed_has_none}
use Rattle.dps_terms.proofs.Listing.{variables_are_those}
use Rattle.dps_know.proofs.Listing.{in_none}
use Rattle.dps_search.specs.Numbers.{root_numbers}

flat_list : (ts : Trees) → all_occurrences ts ≡ flat_map occurrences (list_of ts)
flat_list none = refl
flat_list (more t ts) = ap (λ ns. occurrences t ++ ns) (flat_list ts)

root_and_rest : (s : Tree) (rest : List Tree) → arguments s ≡ take (length (arguments s)) rest
    → flat_map occurrences (s ∷ drop (length (arguments s)) rest) ≡ root_numbers s ++ flat_map occurrences rest
root_and_rest (leaf x) rest e = refl
root_and_rest (app f ts) rest e =
    let k = length (list_of ts) in
    ap (λ ns. ns ++ flat_map occurrences (drop k rest)) (flat_list ts ∙ ap (flat_map occurrences) e)
    ∙ sym (flat_map-append occurrences (take k rest) (drop k rest)) ∙ ap (flat_map occurrences) (take-append-drop k rest)

-- the variables from a node on
pub from_node : (t s : Tree) (node : ℕ) → subterms_from t node ≡ s ∷ drop (length (arguments s)) (subterms_from t (node + 1))
    → arguments s ≡ take (length (arguments s)) (subterms_from t (node + 1))
    → flat_map occurrences (subterms_from t node) ≡ root_numbers s ++ flat_map occurrences (subterms_from t (node + 1))
from_node t s node at below = ap (flat_map occurrences) at ∙ root_and_rest s (subterms_from t (node + 1)) below

pub from_end : (t : Tree) (node : ℕ) → subterms_from t node ≡ [] → flat_map occurrences (subterms_from t node) ≡ []
from_end t node e = ap (flat_map occurrences) e

pub from_start : (t : Tree) → flat_map occurrences (subterms_from t 0) ≡ occurrences t
from_start t = append-nil (occurrences t)

-- a root that is no variable
pub no_root_number : (s : Tree) → ((n : ℕ) → view_of s ≡ Var n → ⊥) → root_numbers s ≡ []
no_root_number (leaf (var n)) h = absurd (h n refl)
no_root_number (leaf (public n)) h = refl
no_root_number (leaf (private n)) h = refl
no_root_number (leaf (ax n)) h = refl
no_root_number (leaf (entry n)) h = refl
no_root_number (leaf (rigid n)) h = refl
no_root_number (app f ts) h = refl

pub root_number : (s : Tree) (n : ℕ) → view_of s ≡ Var n → root_numbers s ≡ n ∷ []
root_number (leaf (var m)) n e = let d : m ≡ n = cc in λ i. d i ∷ []
root_number (leaf (public m)) n e = cc
root_number (leaf (private m)) n e = cc
root_number (leaf (ax m)) n e = cc
root_number (leaf (entry m)) n e = cc
root_number (leaf (rigid m)) n e = cc
root_number (app f ts) n e = cc

pub none_more : (t s : Tree) (node : ℕ) → subterms_from t node ≡ s ∷ drop (length (arguments s)) (subterms_from t (node + 1))
    → arguments s ≡ take (length (arguments s)) (subterms_from t (node + 1)) → root_numbers s ≡ []
    → flat_map occurrences (subterms_from t (node + 1)) ≡ [] → flat_map occurrences (subterms_from t node) ≡ []
none_more t s node at below h e = from_node t s node at below ∙ (λ i. h i ++ e i)

pub closed_by_none : (t : Tree) → flat_map occurrences (subterms_from t 0) ≡ [] → IsClosed t
closed_by_none t e =
    let none_there : variables t ≡ [] = ap each_once (sym (from_start t) ∙ e) in
    (closed_has_none t).1 (λ n k. in_none n (subst (λ ns. Contains ns n) none_there ((variables_are_those t n).1 k)))
