use Rattle.std.proofs.Common.{refl}
use Rattle.dps_know.proofs.Recorded.{avoid_more, avoid_all, avoids_not}
use Rattle.dps_know.proofs.know.is_normal.Goals as goal

pub loop-composition-preserved : goal.loop-composition-preserved
loop-composition-preserved c =
    avoid_more c.args.recorded.now c.loop-composition.composition-index c.composition-item.result c.args.tree.now c.loop-composition.invariant c.loop-composition-test.true
    c.composition-item.is (λ h. let e = c.is_part.ensures.1 h in cc)

pub returns-then-is_part : goal.returns-then-is_part
returns-then-is_part c = (
  λ e. cc,
  λ h. absurd (avoids_not c.args.recorded.now c.loop-composition.composition-index c.composition-item.result c.args.tree.now c.loop-composition-test.true
      c.composition-item.is (c.is_part.ensures.0 c.if-is_part.true) h),
)

pub returns : goal.returns
returns c = (λ _. avoid_all c.args.recorded.now c.loop-composition.composition-index c.args.tree.now c.loop-composition.invariant c.loop-composition-test.false, λ _. refl)
