use Rattle.std.proofs.Common.{List, take, false}
use Rattle.std.specs.Prelude.{Contains}
use Rattle.dps_terms.specs.Tree.{Tree}
use Rattle.dps_tree.specs.Matching.{IsMatchAnswer}
use Rattle.dps_tree.proofs.Holding.{contains_item, taken_more, taken_all}
use Rattle.dps_tree.proofs.Matchings.{unmatched_by_none, unmatched_by_more, matched_by_one}
use Rattle.dps_tree.proofs.matching.is_alike_to_one.Goals as goal

pub loop-other-init : goal.loop-other-init
loop-other-init c = unmatched_by_none c.args.theory.now c.args.frame.now

pub loop-other-preserved : goal.loop-other-preserved
loop-other-preserved c =
    let alike = rw c.if-branch.false at c.in_ok-are_alike.ensures in
    taken_more (λ (fs : List (List Tree)). IsMatchAnswer c.args.theory.now c.args.frame.now (Contains fs) false) c.args.others.now c.loop-other.other-index c.other-item.result c.other-item.is
    c.loop-other-test.true
    (unmatched_by_more c.args.theory.now c.args.frame.now (take c.loop-other.other-index c.args.others.now) c.other-item.result c.loop-other.invariant alike)

pub returns-then-branch : goal.returns-then-branch
returns-then-branch c =
    let alike = rw c.if-branch.true at c.in_ok-are_alike.ensures in
    matched_by_one c.args.theory.now c.args.frame.now (Contains c.args.others.now) c.other-item.result
    (contains_item c.args.others.now c.loop-other.other-index c.other-item.result c.other-item.is c.loop-other-test.true) alike

pub returns : goal.returns
returns c =
    taken_all (λ (fs : List (List Tree)). IsMatchAnswer c.args.theory.now c.args.frame.now (Contains fs) false) c.args.others.now c.loop-other.other-index c.loop-other-test.false
    c.loop-other.invariant
