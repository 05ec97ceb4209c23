use Rattle.dps_replay.proofs.Telling.{more_firsts}
use Rattle.dps_replay.proofs.frames.Frames.of.Goals as goal

pub loop-place-preserved : goal.loop-place-preserved
loop-place-preserved c = rw c.in_ok-push.ensures.items (more_firsts c.args.configs.now c.loop-place.place c.loop-place.firsts.items c.in_ok-first.first c.loop-place.invariant c.in_ok-first.ensures)
