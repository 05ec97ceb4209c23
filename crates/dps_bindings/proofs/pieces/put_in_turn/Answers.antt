use Rattle.std.proofs.Common.{◌≡◌, ◌+◌, ◌-◌, arith}
use Rattle.dps_terms.specs.Bindings.{image}
use Rattle.dps_bindings.proofs.InTurn.{given_before, none_given}
use Rattle.dps_bindings.proofs.pieces.put_in_turn.Goals as goal

pub loop-left-init : goal.loop-left-init
loop-left-init c = record {
  within = omega arith;
  so_far = none_given c.args.given.now _ c.empty-later.result c.empty-later.ensures (omega arith);
}

pub loop-left-preserved : goal.loop-left-preserved
loop-left-preserved c =
    let back : c.loop-left.left - 1 + 1 ≡ c.loop-left.left = omega (arith, c.loop-left-test.true) in
    record {
      within = omega (arith, c.loop-left.invariant.within);
      so_far = given_before c.args.given.now (c.loop-left.left - 1) c.index-given-left.result c.index-given-left.result (image c.loop-left.later) (image c.put_before.new.later)
          (omega (arith, c.loop-left.invariant.within, c.loop-left-test.true)) c.index-given-left.is (rw back c.loop-left.invariant.so_far) c.in_ok-put_before.ensures;
    }

pub returns : goal.returns
returns c =
    let none_left : c.loop-left.left ≡ 0 = omega (arith, c.loop-left-test.false) in
    rw none_left at c.loop-left.invariant.so_far
