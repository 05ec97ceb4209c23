-- What a reader expects of the texts of traces over a signature.
use Rattle.std.specs.Prelude.{◌≡◌, ℕ, List}
use Rattle.dps_signature.specs.Signature.{Signature}
use Rattle.dps_trace.specs.declared.fault.TraceKind.{TraceKind}
use Rattle.dps_trace.specs.Traces.{Trace}
use Rattle.dps_trace.specs.Text.{IsTraceText, trace_text}
use Rattle.dps_trace.specs.Written.{AreWritten}
use Rattle.dps_trace.specs.Faults.{HasTraceFault}

-- no text is that of two traces
abbrev pub NoTextIsTwoTraces : Signature → Type 0
NoTextIsTwoTraces signature = (bytes : List ℕ) (trace other : Trace) → IsTraceText signature trace bytes → IsTraceText signature other bytes → trace ≡ other

-- no text of a trace has a fault
abbrev pub NoTraceHasFault : Signature → Type 0
NoTraceHasFault signature = (bytes : List ℕ) (at : ℕ) (kind : TraceKind) → HasTraceFault signature bytes at kind → (trace : Trace) → ¬ IsTraceText signature trace bytes

-- each trace whose labels may stand in one has a text
abbrev pub EachTraceHasText : Signature → Type 0
EachTraceHasText signature = (trace : Trace) → AreWritten signature 0 trace.labels → IsTraceText signature trace (trace_text signature trace)
