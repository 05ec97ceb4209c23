use Rattle.std.proofs.Common.{◌≡◌, ◌+◌, ◌-◌, arith}
use Rattle.dps_terms.specs.Bindings.{image}
use Rattle.dps_bindings.proofs.InTurn.{none_put, one_put, all_put}
use Rattle.dps_bindings.proofs.pieces.put_variables.Goals as goal

pub loop-left-init : goal.loop-left-init
loop-left-init c = record { within = omega arith; so_far = none_put (image c.args.later.now) c.args.first c.args.count c.args.stack.now }

pub loop-left-preserved : goal.loop-left-preserved
loop-left-preserved c =
    let back : c.loop-left.left - 1 + 1 ≡ c.loop-left.left = omega (arith, c.loop-left-test.true) in
    record {
      within = omega (arith, c.loop-left.invariant.within);
      so_far = one_put (image c.args.later.now) c.args.first (c.loop-left.left - 1) c.args.count c.args.stack.now c.loop-left.stack c.put.new.stack
          (rw back c.loop-left.invariant.so_far) (omega (arith, c.loop-left.invariant.within, c.loop-left-test.true)) (rw c.from.ensures at c.in_ok-put.ensures);
    }

pub returns : goal.returns
returns c =
    all_put (image c.args.later.now) c.args.first c.loop-left.left c.args.count c.args.stack.now c.loop-left.stack c.loop-left.invariant.so_far c.loop-left-test.false
