use Rattle.std.proofs.Common.{◌≡◌, ◌<◌, ◌^◌, List, ◌++◌, length, arith, sym, subst}
use Rattle.dps_branch.specs.declared.Side.TheVariants.{Left, Right}
use Rattle.dps_tree.specs.Nodes.{SideAnswer}
use Rattle.dps_tree.specs.declared.node.Node.{Node}
use Rattle.dps_tree.proofs.Holding.{no_items}
use Rattle.dps_tree.proofs.Rooting.{both_bags, stand_for_some}
use Rattle.dps_tree.proofs.Pending.{IsPending, root_pending, last_node, node_level, node_frames, attacked, looked_at, none_pending}
use Rattle.dps_tree.proofs.Weighing.{total, weight, children_weigh_less}
use Rattle.dps_tree.proofs.plain_check.Goals as goal

pub loop-node-init : goal.loop-node-init
loop-node-init c =
    let left = rw c.side.ensures.process at c.in_ok-left.ensures in
    let right = rw c.side-2.ensures.process at c.in_ok-right.ensures in
    let bags = both_bags c.args.problem.now c.new-table.result c.bag.new.self c.bag-2.new.self c.in_ok-left.left.items c.in_ok-right.right.items c.requires left right in
    rw (c.in_ok-push.ensures.items, c.new-pending.ensures.items)
    (root_pending c.args.problem.now c.bag-2.new.self c.in_ok-left.left.items c.in_ok-right.right.items c.in_ok-root.field-0 bags.on_left bags.on_right c.in_ok-root.ensures)

pub root-requires-clause-on_left : goal.root-requires-clause-on_left
root-requires-clause-on_left c =
    let left = rw c.side.ensures.process at c.in_ok-left.ensures in
    let right = rw c.side-2.ensures.process at c.in_ok-right.ensures in
    let bags = both_bags c.args.problem.now c.new-table.result c.bag.new.self c.bag-2.new.self c.in_ok-left.left.items c.in_ok-right.right.items c.requires left right in
    stand_for_some c.bag-2.new.self _ _ bags.on_left

pub root-requires-clause-on_right : goal.root-requires-clause-on_right
root-requires-clause-on_right c =
    let left = rw c.side.ensures.process at c.in_ok-left.ensures in
    let right = rw c.side-2.ensures.process at c.in_ok-right.ensures in
    let bags = both_bags c.args.problem.now c.new-table.result c.bag.new.self c.bag-2.new.self c.in_ok-left.left.items c.in_ok-right.right.items c.requires left right in
    stand_for_some c.bag-2.new.self _ _ bags.on_right

pub children-requires : goal.children-requires
children-requires c =
    let pending = subst (IsPending c.args.problem.now c.bag-2.new.self) c.in-Some.ensures.items c.loop-node.invariant in
    (last_node c.args.problem.now c.bag-2.new.self c.pop.new.self.items c.in-Some.node pending).named

pub attacked_side-requires : goal.attacked_side-requires
attacked_side-requires c =
    let pending = subst (IsPending c.args.problem.now c.bag-2.new.self) c.in-Some.ensures.items c.loop-node.invariant in
    node_level c.args.problem.now c.bag-2.new.self c.side.ensures.lawful c.requires c.in-Some.node (last_node c.args.problem.now c.bag-2.new.self c.pop.new.self.items c.in-Some.node pending)

pub returns-in-Some-2 : goal.returns-in-Some-2
returns-in-Some-2 c =
    let problem = c.args.problem.now in
    let lawful = c.side.ensures.lawful in
    let pending = subst (IsPending problem c.bag-2.new.self) c.in-Some.ensures.items c.loop-node.invariant in
    let node = last_node problem c.bag-2.new.self c.pop.new.self.items c.in-Some.node pending in
    let answer = (rw c.theory.ensures.theory at c.in_ok-side.ensures) problem.signature (node_frames problem c.bag-2.new.self lawful c.requires c.in-Some.node Left node)
    (node_frames problem c.bag-2.new.self lawful c.requires c.in-Some.node Right node) in
    rw c.into_channels.ensures
    (attacked problem c.bag-2.new.self lawful c.requires c.pop.new.self.items c.in-Some.node c.in-Some-2.side pending
    (subst (SideAnswer c.bag-2.new.self c.in-Some.node problem.signature problem.theory) c.in-Some-2.is answer))

pub loop-node-preserved : goal.loop-node-preserved
loop-node-preserved c =
    let problem = c.args.problem.now in
    let lawful = c.side.ensures.lawful in
    let pending = subst (IsPending problem c.bag-2.new.self) c.in-Some.ensures.items c.loop-node.invariant in
    let node = last_node problem c.bag-2.new.self c.pop.new.self.items c.in-Some.node pending in
    let answer = (rw c.theory.ensures.theory at c.in_ok-side.ensures) problem.signature (node_frames problem c.bag-2.new.self lawful c.requires c.in-Some.node Left node)
    (node_frames problem c.bag-2.new.self lawful c.requires c.in-Some.node Right node) in
    rw c.in_ok-append.ensures.items
    (looked_at problem c.bag-2.new.self lawful c.requires c.pop.new.self.items c.in-Some.node c.in_ok-children.children.items pending
    (subst (SideAnswer c.bag-2.new.self c.in-Some.node problem.signature problem.theory) c.in_default-2.is answer) c.in_ok-children.ensures)

pub loop-node-smaller : goal.loop-node-smaller
loop-node-smaller c =
    let problem = c.args.problem.now in
    let pending = subst (IsPending problem c.bag-2.new.self) c.in-Some.ensures.items c.loop-node.invariant in
    let node = last_node problem c.bag-2.new.self c.pop.new.self.items c.in-Some.node pending in
    let few : length c.in_ok-children.children.items < 2 ^ 64 = omega (arith, c.in_ok-children.children.ok, c.in_ok-children.children.small) in
    let less = children_weigh_less problem c.bag-2.new.self c.pop.new.self.items c.in-Some.node c.in_ok-children.children.items node c.in_ok-children.ensures few in
    subst (λ (ns : List Node). total (weight problem) ns < total (weight problem) c.loop-node.pending.items) (sym c.in_ok-append.ensures.items)
    (subst (λ (ns : List Node). total (weight problem) (c.pop.new.self.items ++ c.in_ok-children.children.items) < total (weight problem) ns) (sym c.in-Some.ensures.items) less)

pub returns : goal.returns
returns c =
    let none : length c.loop-node.pending.items ≡ 0 = omega (arith, c.in_default.ensures.cases, c.loop-node.pending.ok) in
    none_pending c.args.problem.now c.bag-2.new.self c.side.ensures.lawful c.requires
    (subst (IsPending c.args.problem.now c.bag-2.new.self) (no_items c.loop-node.pending.items none) c.loop-node.invariant)
