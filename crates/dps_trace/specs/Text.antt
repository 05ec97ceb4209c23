-- The texts of labels and of traces, in both formats.
use Rattle.std.specs.Prelude.{◌≡◌, ℕ, List, [], ◌∷◌, ◌++◌, Option, Some, None, codes}
use Rattle.std.specs.Fmt.{decimal}
use Rattle.dps_branch.specs.declared.Side.{Side}
use Rattle.dps_branch.specs.declared.Side.TheVariants.{Left, Right}
use Rattle.dps_signature.specs.Signature.{Signature}
use Rattle.dps_signature.specs.Text.{name_text, term_text}
use Rattle.dps_process.specs.Steps.{Label, inputs, outputs, overhears}
use Rattle.dps_trace.specs.declared.model.ModelName.{ModelName}
use Rattle.dps_trace.specs.declared.model.ModelName.TheVariants.{Private, Classic, Eavesdrop}
use Rattle.dps_trace.specs.Traces.{Trace}
use Rattle.dps_trace.specs.Written.{AreWritten}

-- a line, ended by a newline, and then the rest
abbrev pub line : List ℕ → List ℕ → List ℕ
line text rest = text ++ (10 ∷ rest)

-- `in(c,R)`, `out(c,axj)` and `eav(c,axj)`
abbrev pub label_text : Signature → Label → List ℕ
label_text signature (inputs c r) = codes "in(" ++ (name_text signature c ++ (codes "," ++ (term_text signature r ++ codes ")")))
label_text signature (outputs c j) = codes "out(" ++ (name_text signature c ++ (codes ",ax" ++ (decimal j ++ codes ")")))
label_text signature (overhears c j) = codes "eav(" ++ (name_text signature c ++ (codes ",ax" ++ (decimal j ++ codes ")")))

-- a line for each label, and then the rest
abbrev pub label_lines : Signature → List Label → List ℕ → List ℕ
label_lines signature [] rest = rest
label_lines signature (label ∷ labels) rest = line (label_text signature label) (label_lines signature labels rest)

-- lines of labels that may stand behind so many outputs, and nothing else
pub record AreLabelLines (signature : Signature) (outputs : ℕ) (labels : List Label) (bytes : List ℕ) : Type 0 where
  pub written : AreWritten signature outputs labels
  pub text : bytes ≡ label_lines signature labels []

abbrev pub side_line : Side → List ℕ
side_line Left = codes "side: left"
side_line Right = codes "side: right"

abbrev pub model_text : ModelName → List ℕ
model_text Private = codes "private"
model_text Classic = codes "classic"
model_text Eavesdrop = codes "eavesdrop"

abbrev pub model_line : ModelName → List ℕ
model_line model = codes "model: " ++ model_text model

abbrev pub first_header : List ℕ
first_header = codes "trace 1"

abbrev pub second_header : List ℕ
second_header = codes "trace 2"

-- the lines before that of the side: `trace 2` and the model, or in format 1 `trace 1` alone
abbrev pub heading : Option ModelName → List ℕ → List ℕ
heading None rest = line first_header rest
heading (Some model) rest = line second_header (line (model_line model) rest)

-- the text of a trace, in format 2 where it has a model, and else in format 1
abbrev pub trace_text : Signature → Trace → List ℕ
trace_text signature trace = heading trace.model (line (side_line trace.side) (label_lines signature trace.labels []))

-- The bytes are the trace's text, and its labels may stand in a trace.
pub record IsTraceText (signature : Signature) (trace : Trace) (bytes : List ℕ) : Type 0 where
  pub written : AreWritten signature 0 trace.labels
  pub text : bytes ≡ trace_text signature trace
