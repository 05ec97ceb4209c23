use Rattle.std.proofs.Common.{◌≡◌, ◌+◌, ◌-◌, arith}
use Rattle.dps_terms.specs.Seen.{seen}
use Rattle.dps_search.proofs.Nodes.{from_end, none_more, closed_by_none}
use Rattle.dps_search.proofs.closed.is_closed.Goals as goal

pub loop-left-init : goal.loop-left-init
loop-left-init c = record {
  within = omega (arith, c.node_count-left.ensures.count);
  so_far = from_end (seen c.args.term) c.node_count-left.result c.node_count-left.ensures.end;
}

pub loop-left-preserved : goal.loop-left-preserved
loop-left-preserved c =
    let back : c.loop-left.left - 1 + 1 ≡ c.loop-left.left = omega (arith, c.loop-left-test.true) in
    record {
      within = omega (arith, c.loop-left.invariant.within);
      so_far = none_more (seen c.args.term) (seen c.subterm.result) (c.loop-left.left - 1) c.subterm.ensures.first c.subterm.ensures.below
          (c.is_variable.ensures c.if-is_variable.false) (rw back c.loop-left.invariant.so_far);
    }

pub returns : goal.returns
returns c = λ e.
    let none_left : c.loop-left.left ≡ 0 = omega (arith, c.loop-left-test.false) in
    closed_by_none (seen c.args.term) (rw none_left at c.loop-left.invariant.so_far)
