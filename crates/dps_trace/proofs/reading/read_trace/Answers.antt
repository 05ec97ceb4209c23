use Rattle.std.proofs.Common.{◌+◌, map, refl}
use Rattle.dps_process.specs.Labels.{label_of}
use Rattle.dps_trace.specs.Traces.{Trace}
use Rattle.dps_trace.specs.declared.fault.TraceKind.TheVariants as kinds
use Rattle.dps_trace.specs.declared.fault.TraceRefusal.TheVariants.{Fault}
use Rattle.dps_trace.proofs.LinesRead.{only_memory, only_this, no_side_there, wrong_line, whole_trace}
use Rattle.dps_trace.proofs.reading.read_trace.Goals as goal

pub returns-in-Err-clause-fault : goal.returns-in-Err-clause-fault
returns-in-Err-clause-fault c = c.in-Err.ensures.fault c.args.signature.now

pub returns-in-Err-clause-only : goal.returns-in-Err-clause-only
returns-in-Err-clause-only c = λ trace h. only_memory c.args.signature.now c.spelled.ensures c.args.bytes.now (Fault c.in-Err.line c.in-Err.kind) trace (c.in-Err.ensures.fault c.args.signature.now) h

pub returns-in_default-clause-only : goal.returns-in_default-clause-only
returns-in_default-clause-only c =
    λ trace h.
    only_memory c.args.signature.now c.spelled.ensures c.args.bytes.now (Fault (c.in-Ok.heading.lines + 1) kinds.Side) trace
    (no_side_there c.args.signature.now c.args.bytes.now c.in-Ok.heading.rest.now c.in-Ok.heading.model c.in-Ok.heading.lines (c.in-Ok.heading.lines + 1) c.in-Ok.ensures.found c.in-Ok.ensures.lines refl
    c.in_default.ensures.none)
    h

pub returns-in-Ok-read_labels-clause-only : goal.returns-in-Ok-read_labels-clause-only
returns-in-Ok-read_labels-clause-only c =
    λ trace h.
    let found : Trace = record { model = c.in-Ok.heading.model; side = c.in-Some.side; labels = map label_of c.in-Ok-read_labels.labels.items } in
    only_this c.args.signature.now c.spelled.ensures c.args.bytes.now found trace
    (whole_trace c.args.signature.now c.args.bytes.now c.in-Ok.heading.rest.now c.in-Some.rest.now found c.in-Ok.ensures.found c.in-Some.ensures.found c.in-Ok-read_labels.ensures.read)
    h

pub returns-in-Err-read_labels-clause-only : goal.returns-in-Err-read_labels-clause-only
returns-in-Err-read_labels-clause-only c =
    λ trace h.
    only_memory c.args.signature.now c.spelled.ensures c.args.bytes.now c.in-Err-read_labels.refusal trace
    (wrong_line c.args.signature.now c.args.bytes.now c.in-Ok.heading.rest.now c.in-Some.rest.now c.in-Ok.heading.model c.in-Some.side c.in-Ok.heading.lines (c.in-Ok.heading.lines + 2) c.in-Err-read_labels.refusal
    c.in-Ok.ensures.found c.in-Ok.ensures.lines refl c.in-Some.ensures.found c.in-Err-read_labels.ensures.fault)
    h
