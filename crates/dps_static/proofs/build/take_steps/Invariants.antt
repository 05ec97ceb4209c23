use Rattle.std.proofs.Common.{reverse}
use Rattle.dps_static.specs.Steps.{work}
use Rattle.dps_static.proofs.Taking.{IsTaking}
use Rattle.dps_static.proofs.build.take_steps.Given as goal

abbrev pub invariant-loop-step : goal.invariant-loop-step
invariant-loop-step l = IsTaking l.kept l.fn.steps.items l.fn.stack l.steps.items l.stack

abbrev pub decreases-loop-step : goal.decreases-loop-step
decreases-loop-step l = work (reverse l.steps.items)
