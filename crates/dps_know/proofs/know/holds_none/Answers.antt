use Rattle.std.proofs.Common.{refl}
use Rattle.dps_know.proofs.Recorded.{hold_more, hold_none, holds_one}
use Rattle.dps_know.proofs.know.holds_none.Goals as goal

pub loop-entry-preserved : goal.loop-entry-preserved
loop-entry-preserved c =
    hold_more c.args.entries.now c.loop-entry.entry-index c.entry-item.result c.args.tree.now c.loop-entry.invariant c.loop-entry-test.true c.entry-item.is
    (λ h. let e = c.stands_in.ensures.1 h in cc)

pub returns-then-stands_in : goal.returns-then-stands_in
returns-then-stands_in c = (
  λ e. cc,
  λ h. absurd (holds_one c.args.entries.now c.loop-entry.entry-index c.entry-item.result c.args.tree.now c.loop-entry-test.true c.entry-item.is (c.stands_in.ensures.0 c.if-stands_in.true) h),
)

pub returns : goal.returns
returns c = (λ _. hold_none c.args.entries.now c.loop-entry.entry-index c.args.tree.now c.loop-entry.invariant c.loop-entry-test.false, λ _. refl)
