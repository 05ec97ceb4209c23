use Rattle.dps_semantics.specs.Parts.{parts_of}
use Rattle.dps_semantics.specs.Meeting.{TakesAt, IsTaken}
use Rattle.dps_semantics.proofs.Collecting.{Collects}
use Rattle.dps_semantics.proofs.meeting.receptions.Given as goal

abbrev pub invariant-loop-index : goal.invariant-loop-index
invariant-loop-index l =
    Collects (TakesAt l.problem.theory l.sent.channel l.sent.message l.sent.then (parts_of l.fn.parts l.others))
    (IsTaken l.problem.theory l.sent.channel l.sent.message l.sent.then (parts_of l.fn.parts l.others)) l.index l.fn.parts l.parts l.found
