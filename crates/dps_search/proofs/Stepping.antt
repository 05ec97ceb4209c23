-- Single steps from a branch to the next.
use Rattle.std.proofs.Common.{◌≡◌, ℕ, zero, suc, ◌+◌, ◌<◌, List, [], ◌∷◌, ◌++◌, length, slice_get, get_or, take, drop, Some, refl, sym, ◌∙◌, ap, arith, add-one, drop-cons}
use Rattle.std.specs.List.{range_with_len}
use Rattle.std.proofs.lemmas.Option.{none-some}
use Rattle.dps_terms.specs.declared.borrowed.TermView.TheVariants.{Var}
use Rattle.dps_terms.specs.Tree.{public, private, var, ax, entry, rigid, Tree, leaf, app}
use Rattle.dps_terms.specs.Views.{view_of, arguments}
use Rattle.dps_solver.specs.Search.{Branch, with_bound, with_one_bound, argument_targets, composed, root_over, then_put}
use Rattle.dps_solver.specs.declared.scene.Target.{Target}
use Rattle.dps_search.specs.Going.{targets_from, with_one_tree}

-- the targets of arguments
pub targets_are : (z : Target) (n : ℕ) (ts : List Tree) → targets_from z.level n ts ≡ argument_targets z (range_with_len n (length ts)) ts
targets_are z n [] = refl
targets_are z n (t ∷ ts) = λ i. record { name = n; level = z.level; term = t } ∷ targets_are z (n + 1) ts i

abbrev pub target_of : ℕ → Tree → ℕ → Target
target_of l t n = record { name = n; level = l; term = t }

pub targets_next : (l n : ℕ) (ts : List Tree) (i : ℕ) (t : Tree) → slice_get ts i ≡ Some t
    → targets_from l n (take (suc i) ts) ≡ targets_from l n (take i ts) ++ record { name = n + i; level = l; term = t } ∷ []
targets_next l n [] i t e = absurd (none-some t e)
targets_next l n (u ∷ ts) zero t e =
    let same : u ≡ t = cc in
    let number : n ≡ n + 0 = omega arith in
    λ i. target_of l (same i) (number i) ∷ []
targets_next l n (u ∷ ts) (suc i) t e =
    let number : (n + 1) + i ≡ n + suc i = omega arith in
    ap (λ zs. target_of l u n ∷ zs) (targets_next l (n + 1) ts i t e)
    ∙ ap (λ m. target_of l u n ∷ (targets_from l (n + 1) (take i ts) ++ target_of l t m ∷ [])) number

pub targets_more : (l n : ℕ) (ts : List Tree) (i : ℕ) (t : Tree) (before after : List Target) → slice_get ts i ≡ Some t
    → before ≡ targets_from l n (take i ts) → after ≡ before ++ record { name = n + i; level = l; term = t } ∷ []
    → after ≡ targets_from l n (take (i + 1) ts)
targets_more l n ts i t before after there b a =
    a ∙ ap (λ zs. zs ++ target_of l t (n + i) ∷ []) b ∙ sym (targets_next l n ts i t there) ∙ ap (λ k. targets_from l n (take k ts)) (sym (add-one i))

-- the composed branch, by its parts
pub is_composed :
    (b : Branch) (z : Target) (t root : Tree) (rest : List Target) (trees : ℕ → Tree) (targets : List Target) (next : ℕ)
    → root ≡ root_over t (range_with_len b.next (length (arguments t))) → trees ≡ then_put z.name root b.trees
    → targets ≡ targets_from z.level b.next (arguments t) ++ rest → next ≡ b.next + length (arguments t)
    → (let c : Branch = record { theta = b.theta; trees = trees; targets = targets; levels = b.levels; next = next } in c) ≡ composed b z rest t
is_composed b z t root rest trees targets next r e f g =
    let tree = e ∙ ap (λ u. then_put z.name u b.trees) r in
    let left = f ∙ ap (λ zs. zs ++ rest) (targets_are z b.next (arguments t)) in
    λ i. record { theta = b.theta; trees = tree i; targets = left i; levels = b.levels; next = g i }

-- newly bound variables
pub bound_next : (s : List (ℕ × ℕ)) (i : ℕ) (p : ℕ × ℕ) (whole b c : Branch) → i < length s → p ≡ get_or s i p
    → with_bound (drop i s) b ≡ whole → c ≡ with_one_bound (b.theta p.0) p b → with_bound (drop (i + 1) s) c ≡ whole
bound_next s i p whole b c l at h e =
    let split : drop i s ≡ p ∷ drop (i + 1) s =
    drop-cons s i p l ∙ (λ j. sym at j ∷ drop (suc i) s) ∙ ap (λ n. p ∷ drop n s) (sym (add-one i)) in
    ap (with_bound (drop (i + 1) s)) e ∙ sym (ap (λ ps. with_bound ps b) split) ∙ h

pub another_is_sought : (t : Tree) (p : ℕ × ℕ) (b : Branch) → ((y : ℕ) → Var y ≡ view_of t → ⊥)
    → (let c : Branch = record b { targets = b.targets ++ record { name = p.0; level = p.1; term = t } ∷ [] } in c) ≡ with_one_bound t p b
another_is_sought (leaf (var y)) p b h = absurd (h y refl)
another_is_sought (leaf (public n)) p b h = refl
another_is_sought (leaf (private n)) p b h = refl
another_is_sought (leaf (ax n)) p b h = refl
another_is_sought (leaf (entry n)) p b h = refl
another_is_sought (leaf (rigid n)) p b h = refl
another_is_sought (app f ts) p b h = refl

pub variable_is_tree : (t : Tree) (y : ℕ) (p : ℕ × ℕ) (b : Branch) → Var y ≡ view_of t → with_one_tree p.0 (leaf (var y)) b ≡ with_one_bound t p b
variable_is_tree (leaf (var x)) y p b e = let d : y ≡ x = cc in λ i. with_one_tree p.0 (leaf (var (d i))) b
variable_is_tree (leaf (public n)) y p b e = cc
variable_is_tree (leaf (private n)) y p b e = cc
variable_is_tree (leaf (ax n)) y p b e = cc
variable_is_tree (leaf (entry n)) y p b e = cc
variable_is_tree (leaf (rigid n)) y p b e = cc
variable_is_tree (app f ts) y p b e = cc
