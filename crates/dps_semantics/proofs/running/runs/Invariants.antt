use Rattle.std.proofs.Common.{take, map}
use Rattle.dps_process.specs.Labels.{label_of}
use Rattle.dps_semantics.specs.Settling.{AreJust, EachStandsOnce}
use Rattle.dps_semantics.specs.Words.{EndsIn}
use Rattle.dps_semantics.proofs.Ends.{SomeTrace}
use Rattle.dps_semantics.proofs.running.runs.Given as goal

abbrev pub invariant-loop-index : goal.invariant-loop-index
invariant-loop-index l =
    AreJust (EndsIn l.problem l.fn.side (take l.index (map label_of l.word))) l.ends.items
    × SomeTrace l.problem l.fn.side (take l.index (map label_of l.word)) × EachStandsOnce l.ends.items
