-- How it is told that a node is consistent.
use Rattle.std.proofs.Common.{◌≡◌, ℕ, zero, suc, List, [], ◌∷◌, Some, map, filter_map, slice_get, get_or, refl, sym, subst, All}
use Rattle.std.specs.Prelude.{IfSome}
use Rattle.std.proofs.lemmas.List.Elements.{All-nil, All-cons, All-head, All-tail, All-weaker}
use Rattle.std.proofs.lemmas.List.{get_or_default}
use Rattle.std.proofs.lemmas.Option.{none-some}
use Rattle.dps_terms.specs.Tree.{Leaf, public, private, var, ax, entry, rigid, Tree, leaf}
use Rattle.dps_terms.specs.Replace.{substitute, variables_to}
use Rattle.dps_terms.proofs.Replacing.{replace_stays}
use Rattle.dps_know.specs.Know.{compositions, IsNormal}
use Rattle.dps_process.specs.Labels.{label_of}
use Rattle.dps_process.specs.declared.label.Label.{Label as LabelValue}
use Rattle.dps_process.specs.declared.label.Label.TheVariants.{In, Out}
use Rattle.dps_solver.specs.Scene.{Disequation}
use Rattle.dps_solver.specs.Solutions.{identity, IsMatchedUnder, Respects}
use Rattle.dps_solver.specs.Matched.{IsExcluded}
use Rattle.dps_node.specs.Node.{Node, label_tree, label_trees, system_of}

pub identity_stays : (t : Tree) → substitute identity t ≡ t
identity_stays t = replace_stays (variables_to identity) t (λ x _. itself x)
  where
    itself : (x : Leaf) → variables_to identity x ≡ leaf x
    itself (public n) = refl
    itself (private n) = refl
    itself (var n) = refl
    itself (ax j) = refl
    itself (entry i) = refl
    itself (rigid k) = refl

pub identities_stay : (ts : List Tree) → map (substitute identity) ts ≡ ts
identities_stay [] = refl
identities_stay (t ∷ ts) = λ i. identity_stays t i ∷ identities_stay ts i

-- normal under the identity is normal
pub normal_under_identity : (recorded : List Tree) (t : Tree) → IsNormal (map (substitute identity) recorded) (substitute identity t) ≡ IsNormal recorded t
normal_under_identity recorded t = λ i. IsNormal (identities_stay recorded i) (identity_stays t i)

-- what holds of each label's tree holds of all of them, and the other way round
pub all_trees : (P : Tree → Type 0) (ls : List LabelValue) → ((i : ℕ) (x : LabelValue) → slice_get ls i ≡ Some x → IfSome (label_tree (label_of x)) P) → All P (filter_map label_tree (map label_of ls))
all_trees P [] h = All-nil P
all_trees P (In c t ∷ ls) h = All-cons P t (filter_map label_tree (map label_of ls)) (h 0 (In c t) refl) (all_trees P ls (λ i x e. h (suc i) x e))
all_trees P (Out c j ∷ ls) h = all_trees P ls (λ i x e. h (suc i) x e)

pub each_tree : (P : Tree → Type 0) (ls : List LabelValue) (i : ℕ) (x : LabelValue) → slice_get ls i ≡ Some x → All P (filter_map label_tree (map label_of ls)) → IfSome (label_tree (label_of x)) P
each_tree P [] i x e a = absurd (none-some x e)
each_tree P (In c t ∷ ls) zero x e a =
    let d : In c t ≡ x = cc in
    subst (λ y. IfSome (label_tree (label_of y)) P) d (All-head P t (filter_map label_tree (map label_of ls)) a)
each_tree P (Out c j ∷ ls) zero x e a = let d : Out c j ≡ x = cc in subst (λ y. IfSome (label_tree (label_of y)) P) d tt
each_tree P (In c t ∷ ls) (suc i) x e a = each_tree P ls i x e (All-tail P t (filter_map label_tree (map label_of ls)) a)
each_tree P (Out c j ∷ ls) (suc i) x e a = each_tree P ls i x e a

normal_to : (recorded : List Tree) (t : Tree) → IsNormal (map (substitute identity) recorded) (substitute identity t) → IsNormal recorded t
normal_to recorded t h = subst (λ u. IsNormal recorded u) (identity_stays t) (subst (λ rs. IsNormal rs (substitute identity t)) (identities_stay recorded) h)

normal_from : (recorded : List Tree) (t : Tree) → IsNormal recorded t → IsNormal (map (substitute identity) recorded) (substitute identity t)
normal_from recorded t h = subst (λ rs. IsNormal rs (substitute identity t)) (sym (identities_stay recorded)) (subst (λ u. IsNormal recorded u) (sym (identity_stays t)) h)

-- the labels of a consistent node are normal
pub labels_normal : (node : Node) → Respects (system_of node) identity → All (IsNormal (compositions node.know)) (label_trees node)
labels_normal node r = All-weaker _ (IsNormal (compositions node.know)) (λ t h. normal_to (compositions node.know) t h) (label_trees node) r.labels

excludes_none : (ds : List Disequation) → ¬ IsExcluded identity ds → All (λ d. ¬ IsMatchedUnder identity d) ds
excludes_none ds n = λ k d l m. n (k, get_or ds k d, l, get_or_default ds k (get_or ds k d) d l, m)

pub not_excluded : (node : Node) → Respects (system_of node) identity → ¬ IsExcluded identity node.disequations
not_excluded node r = λ e. r.disequations e.0 e.1 e.2 (subst (λ d. IsMatchedUnder identity d) (sym e.3) e.4)

pub respecting : (node : Node) → All (IsNormal (compositions node.know)) (label_trees node) → ¬ IsExcluded identity node.disequations → Respects (system_of node) identity
respecting node a n = record {
  labels = All-weaker (IsNormal (compositions node.know)) _ (λ t h. normal_from (compositions node.know) t h) (label_trees node) a;
  disequations = excludes_none node.disequations n;
}
