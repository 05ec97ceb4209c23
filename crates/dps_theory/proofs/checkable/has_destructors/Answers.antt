use Rattle.dps_theory.specs.Checkable.{HasDestructor}
use Rattle.dps_theory.proofs.CheckableRules.{up_to_next}
use Rattle.dps_theory.proofs.checkable.has_destructors.Goals as goal

pub loop-place-preserved : goal.loop-place-preserved
loop-place-preserved c =
    up_to_next (HasDestructor c.args.signature.now c.args.length) 1 c.loop-place.place c.loop-place.invariant
    (c.in_ok-has_destructor.ensures.0 c.if-not-branch.false)
