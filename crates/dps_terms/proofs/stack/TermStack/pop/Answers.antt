use Rattle.std.proofs.Common.{◌≡◌, ◌∙◌, ◌<◌, ◌-◌, ◌∷◌, ap, sym, subst, arith, length, drop, take}
use Rattle.std.specs.Prelude.{reverse}
use Rattle.std.specs.List.{refill}
use Rattle.dps_terms.specs.Cells.{forest, front, tree_of}
use Rattle.dps_terms.specs.Tree.{node_counts}
use Rattle.dps_terms.specs.Stacks.{trees_on, IsStack}
use Rattle.dps_terms.proofs.Preorder.{length-list_of}
use Rattle.dps_terms.proofs.Stacked.{popped}
use Rattle.dps_terms.proofs.stack.TermStack.pop.Goals as goal

pub width_in_front-requires-clause-there : goal.width_in_front-requires-clause-there
width_in_front-requires-clause-there c =
    let old = c.self.inside.cells.items in
    let n : length (trees_on old) ≡ length c.args.self.now = ap length c.self.view_is in
    rw c.as_slice-cells.ensures (omega (arith, c.requires, n, length-list_of (forest (reverse old))))

pub overflow_sub-left : goal.overflow_sub-left
overflow_sub-left c =
    let old = c.self.inside.cells.items in
    let n : 0 < length (trees_on old) = omega (arith, c.requires, ap length c.self.view_is) in
    let w : c.width_in_front.result ≡ node_counts (front 1 (forest (reverse old))) = c.width_in_front.ensures ∙ ap (λ xs. node_counts (front 1 (forest (reverse xs)))) c.as_slice-cells.ensures in
    rw c.as_slice-cells.ensures (popped old old old c.width_in_front.result c.self.invariant n w).fits

pub invariant_of-result : goal.invariant_of-result
invariant_of-result c =
    let old = c.self.inside.cells.items in
    let n : 0 < length (trees_on old) = omega (arith, c.requires, ap length c.self.view_is) in
    let w : c.width_in_front.result ≡ node_counts (front 1 (forest (reverse old))) = c.width_in_front.ensures ∙ ap (λ xs. node_counts (front 1 (forest (reverse xs)))) c.as_slice-cells.ensures in
    let copied : c.in_ok-copied.copied.items ≡ drop (length old - c.width_in_front.result) old = c.in_ok-copied.ensures.ok
    ∙ (c.split_at.ensures.back ∙ ap (λ xs. drop (length xs - c.width_in_front.result) xs) c.as_slice-cells.ensures) in
    let turned : c.reverse.new.self ≡ reverse c.in_ok-copied.copied.items = c.reverse.ensures.after ∙ ap reverse c.as_mut_slice.ensures.value in
    (popped old c.in_ok-copied.copied.items c.reverse.new.self c.width_in_front.result c.self.invariant n w).term copied turned

pub invariant_of-self : goal.invariant_of-self
invariant_of-self c =
    let old = c.self.inside.cells.items in
    let n : 0 < length (trees_on old) = omega (arith, c.requires, ap length c.self.view_is) in
    let w : c.width_in_front.result ≡ node_counts (front 1 (forest (reverse old))) = c.width_in_front.ensures ∙ ap (λ xs. node_counts (front 1 (forest (reverse xs)))) c.as_slice-cells.ensures in
    let left : c.truncate.new.self.items ≡ take (length old - c.width_in_front.result) old = c.truncate.ensures.items
    ∙ ap (λ xs. take (length xs - c.width_in_front.result) old) c.as_slice-cells.ensures in
    subst IsStack (sym left) (popped old old old c.width_in_front.result c.self.invariant n w).rest

pub returns-clause-ok : goal.returns-clause-ok
returns-clause-ok c =
    let old = c.self.inside.cells.items in
    let n : 0 < length (trees_on old) = omega (arith, c.requires, ap length c.self.view_is) in
    let w : c.width_in_front.result ≡ node_counts (front 1 (forest (reverse old))) = c.width_in_front.ensures ∙ ap (λ xs. node_counts (front 1 (forest (reverse xs)))) c.as_slice-cells.ensures in
    let copied : c.in_ok-copied.copied.items ≡ drop (length old - c.width_in_front.result) old = c.in_ok-copied.ensures.ok
    ∙ (c.split_at.ensures.back ∙ ap (λ xs. drop (length xs - c.width_in_front.result) xs) c.as_slice-cells.ensures) in
    let turned : c.reverse.new.self ≡ reverse c.in_ok-copied.copied.items = c.reverse.ensures.after ∙ ap reverse c.as_mut_slice.ensures.value in
    let left : c.truncate.new.self.items ≡ take (length old - c.width_in_front.result) old = c.truncate.ensures.items
    ∙ ap (λ xs. take (length xs - c.width_in_front.result) old) c.as_slice-cells.ensures in
    sym c.self.view_is
    ∙ ((popped old c.in_ok-copied.copied.items c.reverse.new.self c.width_in_front.result c.self.invariant n w).seen copied turned
    ∙ ap (λ xs. tree_of (refill (length c.in_ok-copied.copied.items) c.in_ok-copied.copied.items c.reverse.new.self) ∷ trees_on xs) (sym left))
