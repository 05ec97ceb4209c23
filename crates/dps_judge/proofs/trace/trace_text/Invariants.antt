use Rattle.std.proofs.Common.{◌≡◌, ◌+◌, ◌++◌, drop, string_bytes}
use Rattle.dps_tree.specs.Words.{outputs_from}
use Rattle.dps_judge.specs.Traces.{label_lines}
use Rattle.dps_judge.proofs.trace.trace_text.Given as goal

abbrev pub invariant-loop-index : goal.invariant-loop-index
invariant-loop-index l =
    string_bytes l.text ++ label_lines l.fn.signature (outputs_from (l.index + 1) (drop l.index l.channel-items)) ≡ string_bytes l.initial.text ++ label_lines l.fn.signature
    (outputs_from 1 l.channel-items)
