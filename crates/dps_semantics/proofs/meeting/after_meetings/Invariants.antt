use Rattle.dps_semantics.specs.Parts.{parts_of}
use Rattle.dps_semantics.specs.Coming.{ComesByMeeting}
use Rattle.dps_semantics.specs.Meeting.{MeetsAt}
use Rattle.dps_semantics.proofs.Collecting.{Collects}
use Rattle.dps_semantics.proofs.meeting.after_meetings.Given as goal

abbrev pub invariant-loop-index : goal.invariant-loop-index
invariant-loop-index l =
    Collects (MeetsAt l.problem.model l.problem.signature l.problem.theory (parts_of l.fn.parts l.bag))
    (ComesByMeeting l.problem.model l.problem.signature l.problem.theory (parts_of l.fn.parts l.bag)) l.index l.fn.parts l.parts l.found
