use Rattle.std.proofs.Common.{map, arith}
use Rattle.dps_process.specs.Labels.{label_of}
use Rattle.dps_trace.proofs.LinesRead.{room_for_line, room_for_output, one_more}
use Rattle.dps_trace.proofs.reading.read_labels.Goals as goal

pub outputs_behind-outputs-requires : goal.outputs_behind-outputs-requires
outputs_behind-outputs-requires c =
    omega (
      arith,
      room_for_output c.args.signature.now c.args.first c.args.bytes.now (map label_of c.lines.labels.items) c.lines.line c.lines.outputs c.lines.rest.now
          c.in-Ok.behind.now (label_of c.in-Ok.label) c.lines.invariant c.in-Ok.ensures.read c.requires.few,
    )

pub overflow_add-line : goal.overflow_add-line
overflow_add-line c =
    omega (
      arith,
      room_for_line c.args.signature.now c.args.first c.args.bytes.now (map label_of c.lines.labels.items) c.lines.line c.lines.outputs c.lines.rest.now
          c.in-Ok.behind.now (label_of c.in-Ok.label) c.lines.invariant c.in-Ok.ensures.read c.requires.few,
    )

pub lines-preserved : goal.lines-preserved
lines-preserved c =
    one_more c.args.signature.now c.args.first c.args.bytes.now c.lines.labels.items c.push.new.self.items c.lines.line c.lines.outputs c.outputs_behind-outputs.result
    c.lines.rest.now c.in-Ok.behind.now c.in-Ok.label c.lines.invariant c.in-Ok.ensures.read c.outputs_behind-outputs.ensures c.in-Ok-push.ensures.items
