use Rattle.std.proofs.Common.{◌≡◌, ◌+◌, ◌-◌, arith}
use Rattle.dps_terms.specs.Seen.{seen}
use Rattle.dps_search.proofs.Above.{above_node, above_end, above_whole}
use Rattle.dps_search.proofs.numbers.above_term.Goals as goal

pub loop-left-init : goal.loop-left-init
loop-left-init c = record {
  within = omega (arith, c.node_count-left.ensures.count);
  so_far = above_end (seen c.whole-nodes.result) c.node_count-left.result c.args.next c.node_count-left.ensures.end;
}

pub loop-left-preserved : goal.loop-left-preserved
loop-left-preserved c =
    let back : c.loop-left.left - 1 + 1 ≡ c.loop-left.left = omega (arith, c.loop-left-test.true) in
    record {
      within = omega (arith, c.loop-left.invariant.within);
      so_far = above_node (seen c.whole-nodes.result) (seen c.subterm.result) (c.loop-left.left - 1) c.args.next c.loop-left.above c.in_ok-above.above
          c.subterm.ensures.first c.subterm.ensures.below (rw back c.loop-left.invariant.so_far) c.in_ok-above.ensures;
    }

pub returns : goal.returns
returns c =
    let none_left : c.loop-left.left ≡ 0 = omega (arith, c.loop-left-test.false) in
    rw c.whole-nodes.ensures at (above_whole (seen c.whole-nodes.result) c.args.next c.loop-left.above (rw none_left at c.loop-left.invariant.so_far))
