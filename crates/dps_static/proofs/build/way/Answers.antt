use Rattle.dps_terms.specs.Tree.{node_count}
use Rattle.dps_terms.specs.Seen.{seen}
use Rattle.dps_static.specs.Ways.{Builds, IsNotBuilt}
use Rattle.dps_static.specs.Steps.{Leads}
use Rattle.dps_static.proofs.Taking.{one_way, one_there, no_way}
use Rattle.dps_static.proofs.build.way.Goals as goal

pub returns-then-not-branch : goal.returns-then-not-branch
returns-then-not-branch c = let h : IsNotBuilt c.args.kept.now (seen c.args.tree) = rw c.if-not-branch.true at c.in_ok-put_way.ensures in h

pub take_steps-requires : goal.take_steps-requires
take_steps-requires c =
    let h : Leads (Builds c.args.kept.now (seen c.args.tree)) c.args.kept.now (node_count (seen c.args.tree)) c.new-steps.result.items c.empty-stack.result c.put_way.new.steps.items c.put_way.new.stack = rw c.if-not-branch.false at c.in_ok-put_way.ensures in
    (rw (c.new-steps.ensures.items, c.empty-stack.ensures) at h).ready tt

pub returns-then-not-branch-2 : goal.returns-then-not-branch-2
returns-then-not-branch-2 c =
    let h : Leads (Builds c.args.kept.now (seen c.args.tree)) c.args.kept.now (node_count (seen c.args.tree)) c.new-steps.result.items c.empty-stack.result c.put_way.new.steps.items c.put_way.new.stack = rw c.if-not-branch.false at c.in_ok-put_way.ensures in
    no_way c.args.kept.now (Builds c.args.kept.now (seen c.args.tree)) (node_count (seen c.args.tree)) c.put_way.new.steps.items c.put_way.new.stack (rw (c.new-steps.ensures.items, c.empty-stack.ensures) at h) (rw c.if-not-branch-2.true at c.in_ok-take_steps.ensures)

pub into_term-requires : goal.into_term-requires
into_term-requires c =
    let h : Leads (Builds c.args.kept.now (seen c.args.tree)) c.args.kept.now (node_count (seen c.args.tree)) c.new-steps.result.items c.empty-stack.result c.put_way.new.steps.items c.put_way.new.stack = rw c.if-not-branch.false at c.in_ok-put_way.ensures in
    one_there c.args.kept.now (Builds c.args.kept.now (seen c.args.tree)) (node_count (seen c.args.tree)) c.put_way.new.steps.items c.put_way.new.stack c.take_steps.new.stack (rw (c.new-steps.ensures.items, c.empty-stack.ensures) at h) (rw c.if-not-branch-2.false at c.in_ok-take_steps.ensures)

pub returns : goal.returns
returns c =
    let h : Leads (Builds c.args.kept.now (seen c.args.tree)) c.args.kept.now (node_count (seen c.args.tree)) c.new-steps.result.items c.empty-stack.result c.put_way.new.steps.items c.put_way.new.stack = rw c.if-not-branch.false at c.in_ok-put_way.ensures in
    one_way c.args.kept.now (Builds c.args.kept.now (seen c.args.tree)) (node_count (seen c.args.tree)) c.put_way.new.steps.items c.put_way.new.stack c.take_steps.new.stack c.into_term.result (rw (c.new-steps.ensures.items, c.empty-stack.ensures) at h) (rw c.if-not-branch-2.false at c.in_ok-take_steps.ensures) c.into_term.ensures
