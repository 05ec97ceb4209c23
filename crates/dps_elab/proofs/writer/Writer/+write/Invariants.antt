use Rattle.std.proofs.Common.{◌+◌, ◌*◌}
use Rattle.dps_elab.proofs.writer.Writer.+write.Given as goal

abbrev pub decreases-body : goal.decreases-body
decreases-body l = 8 * l.depth + 4

abbrev pub decreases-node : goal.decreases-node
decreases-node l = 8 * l.depth + 3

abbrev pub decreases-chain : goal.decreases-chain
decreases-chain l = 8 * l.depth + 5

abbrev pub decreases-pair : goal.decreases-pair
decreases-pair l = 8 * l.depth + 2

abbrev pub decreases-copies : goal.decreases-copies
decreases-copies l = 8 * l.depth + 5

abbrev pub decreases-one_and_copies : goal.decreases-one_and_copies
decreases-one_and_copies l = 8 * l.depth + 2

abbrev pub decreases-input : goal.decreases-input
decreases-input l = 8 * l.depth + 2

abbrev pub decreases-output : goal.decreases-output
decreases-output l = 8 * l.depth + 2

abbrev pub decreases-conditional : goal.decreases-conditional
decreases-conditional l = 8 * l.depth + 2

abbrev pub decreases-bind : goal.decreases-bind
decreases-bind l = 8 * l.depth + 2

abbrev pub decreases-taken_apart : goal.decreases-taken_apart
decreases-taken_apart l = 8 * l.depth + 7

abbrev pub decreases-step : goal.decreases-step
decreases-step l = 8 * l.depth + 6

abbrev pub decreases-project : goal.decreases-project
decreases-project l = 8 * l.depth + 5

abbrev pub decreases-test : goal.decreases-test
decreases-test l = 8 * l.depth + 5

abbrev pub decreases-otherwise : goal.decreases-otherwise
decreases-otherwise l = 8 * l.depth + 5
