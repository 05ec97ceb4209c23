use Rattle.std.proofs.Common.{◌≡◌, ◌+◌, ◌∙◌, ap, get_or, refl, arith}
use Rattle.dps_theory.specs.Overlaps.{least_above}
use Rattle.dps_symeval.proofs.Reducing.{least_step, least_end}
use Rattle.dps_symeval.proofs.narrowing.next_after.Goals as goal

pub loop-variable-init : goal.loop-variable-init
loop-variable-init c = record { above = omega arith; rest = omega arith }

pub loop-variable-preserved : goal.loop-variable-preserved
loop-variable-preserved c =
    let vs = c.deref-variable-items.result.now in
    let i = c.loop-variable.variable-index in
    let v = get_or vs i 0 in
    let above : c.in-Some.above ≡ v + c.args.next + 1 = omega (arith, c.in-Some.ensures) in
    record {
      above = omega (arith, c.max-after.ensures, c.loop-variable.invariant.above);
      rest =
          rw c.max-after.ensures
          (least_step vs i (i + 1) v c.args.next c.loop-variable.after c.in-Some.above (c.args.next + least_above vs) c.loop-variable-test.true (omega arith) refl above
          c.loop-variable.invariant.rest);
    }

pub returns : goal.returns
returns c =
    let vs = c.deref-variable-items.result.now in
    least_end vs c.loop-variable.variable-index c.args.next c.loop-variable.after c.loop-variable-test.false c.loop-variable.invariant.above c.loop-variable.invariant.rest
    ∙ ap (λ ns. c.args.next + least_above ns) (c.deref-variable-items.ensures.value ∙ c.in_ok-variables.ensures)
