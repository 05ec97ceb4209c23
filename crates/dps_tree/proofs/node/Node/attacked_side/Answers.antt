use Rattle.dps_tree.proofs.Matchings.{level_swapped, mutual_matched}
use Rattle.dps_tree.proofs.node.Node.attacked_side.Goals as goal

pub are_matched-requires-2 : goal.are_matched-requires-2
are_matched-requires-2 c = rw (c.deref-5.ensures.value, c.deref-6.ensures.value) (level_swapped _ _ c.requires)

pub returns-then-not-branch : goal.returns-then-not-branch
returns-then-not-branch c =
    let first = rw (c.deref.ensures.value, c.deref-2.ensures.value, c.if-not-branch.true) at c.in_ok-are_matched.ensures in
    λ signature f g. first signature f g

pub returns-then-not-branch-2 : goal.returns-then-not-branch-2
returns-then-not-branch-2 c =
    let first = rw (c.deref.ensures.value, c.deref-2.ensures.value, c.if-not-branch.false) at c.in_ok-are_matched.ensures in
    let second = rw (c.deref-5.ensures.value, c.deref-6.ensures.value, c.if-not-branch-2.true) at c.in_ok-are_matched-2.ensures in
    λ signature f g. (second signature g f, first signature f g)

pub returns : goal.returns
returns c =
    let first = rw (c.deref.ensures.value, c.deref-2.ensures.value, c.if-not-branch.false) at c.in_ok-are_matched.ensures in
    let second = rw (c.deref-5.ensures.value, c.deref-6.ensures.value, c.if-not-branch-2.false) at c.in_ok-are_matched-2.ensures in
    λ signature f g. (first signature f g, second signature g f)

pub returns-then-is_mutual : goal.returns-then-is_mutual
returns-then-is_mutual c =
    let first = rw (c.deref.ensures.value, c.deref-2.ensures.value, c.if-not-branch.false) at c.in_ok-are_matched.ensures in
    let turned = rw (c.deref-3.ensures.value, c.deref-4.ensures.value) at (c.is_mutual.ensures c.if-is_mutual.true) in
    λ signature f g. (first signature f g, mutual_matched signature c.args.theory.now c.args.table.now c.args.self.now.left.items c.args.self.now.right.items turned (first signature f g))
