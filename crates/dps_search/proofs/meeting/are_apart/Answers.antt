use Rattle.std.proofs.Common.{rules, IsTrue}
use Rattle.dps_terms.specs.Bindings.{image}
use Rattle.dps_terms.specs.Seen.{seen}
use Rattle.dps_search.proofs.Walked.{followed_next, apart_below}
use Rattle.dps_search.proofs.meeting.are_apart.Goals as goal

pub returns-then-have_other_roots : goal.returns-then-have_other_roots
returns-then-have_other_roots c = λ _.
    apart_below (seen c.args.value) (seen c.args.term) (seen c.subterm-left.result) (seen c.subterm-right.result) c.loop-node.node
    c.subterm-left.ensures.first c.subterm-right.ensures.first c.loop-node.invariant (image c.args.theta.now)
    (c.have_other_roots.ensures c.if-have_other_roots.true)

pub loop-node-preserved : goal.loop-node-preserved
loop-node-preserved c =
    let same : IsTrue c.has_root_of.result = search rules in
    followed_next (seen c.args.value) (seen c.args.term) (seen c.subterm-left.result) (seen c.subterm-right.result) c.loop-node.node
    c.subterm-left.ensures.first c.subterm-right.ensures.first c.loop-node.invariant c.subterm-left.ensures.below c.subterm-right.ensures.below
    (c.has_root_of.ensures.0 same)
