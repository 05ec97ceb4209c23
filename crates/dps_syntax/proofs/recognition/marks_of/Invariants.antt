use Rattle.std.proofs.Common.{take}
use Rattle.dps_syntax.proofs.Files.{IsExact}
use Rattle.dps_syntax.proofs.recognition.marks_of.Given as goal

abbrev pub invariant-loop-place : goal.invariant-loop-place
invariant-loop-place l = IsExact (take l.place l.words) l.expected l.marks.items
