use Rattle.std.proofs.Common.{◌≡◌, ◌++◌, [], map, drop, string_bytes}
use Rattle.dps_process.specs.Labels.{label_of}
use Rattle.dps_trace.specs.Text.{label_lines}
use Rattle.dps_trace.proofs.printing.write_labels.Given as goal

abbrev pub invariant-loop-label : goal.invariant-loop-label
invariant-loop-label l =
    string_bytes l.text ++ label_lines l.fn.signature (map label_of (drop l.label-index l.labels)) [] ≡ string_bytes l.initial.text ++ label_lines l.fn.signature (map label_of l.labels) []
