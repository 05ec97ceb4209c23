-- The first line of a trace that is wrong, and what is wrong with it.
use Rattle.std.specs.Prelude.{◌≡◌, ◌≢◌, ℕ, ◌+◌, List, [], Option, Some, None, length, ⊤}
use Rattle.dps_branch.specs.declared.Side.{Side}
use Rattle.dps_signature.specs.Signature.{Signature}
use Rattle.dps_process.specs.Steps.{Label}
use Rattle.dps_trace.specs.declared.model.ModelName.{ModelName}
use Rattle.dps_trace.specs.declared.fault.TraceKind.{TraceKind}
use Rattle.dps_trace.specs.declared.fault.TraceKind.TheVariants as kinds
use Rattle.dps_trace.specs.declared.fault.TraceRefusal.{TraceRefusal}
use Rattle.dps_trace.specs.declared.fault.TraceRefusal.TheVariants.{Fault, Memory}
use Rattle.dps_trace.specs.Text.{line, label_text, label_lines, side_line, model_line, first_header, second_header, heading}
use Rattle.dps_trace.specs.Written.{IsWrittenLabel, IsInTurn, AreWritten, outputs_after}

-- the bytes begin with this line, ended by a newline
abbrev pub BeginsWith : List ℕ → List ℕ → Type 0
BeginsWith text bytes = (rest : List ℕ) × (bytes ≡ line text rest)

-- how many lines stand before that of the side
abbrev pub heading_lines : Option ModelName → ℕ
heading_lines None = 1
heading_lines (Some model) = 2

-- The first line is that of a label which may come behind so many outputs, and then comes the rest.
pub record BeginsLabel (signature : Signature) (outputs : ℕ) (label : Label) (rest lines : List ℕ) : Type 0 where
  pub over : IsWrittenLabel signature label
  pub in_turn : IsInTurn outputs label
  pub text : lines ≡ line (label_text signature label) rest

-- the first line is that of no label over the signature
abbrev pub BeginsNoLabel : Signature → List ℕ → Type 0
BeginsNoLabel signature lines = (label : Label) → IsWrittenLabel signature label → ¬ BeginsWith (label_text signature label) lines

-- The first line is that of a label over the signature, but not in turn behind so many outputs: of an output that is not of the
-- next handle, or of an input whose recipe has the handle of no output so far.
pub record BeginsOutOfTurn (signature : Signature) (outputs : ℕ) (lines : List ℕ) : Type 0 where
  pub label : Label
  pub rest : List ℕ
  pub over : IsWrittenLabel signature label
  pub out_of_turn : ¬ IsInTurn outputs label
  pub text : lines ≡ line (label_text signature label) rest

-- The first line, which has this number, is wrong behind so many outputs.
abbrev pub IsWrongNext : Signature → ℕ → ℕ → List ℕ → TraceRefusal → Type 0
IsWrongNext signature here outputs lines (Fault at kinds.NoTrace) = ⊥
IsWrongNext signature here outputs lines (Fault at kinds.Header) = ⊥
IsWrongNext signature here outputs lines (Fault at kinds.Model) = ⊥
IsWrongNext signature here outputs lines (Fault at kinds.Side) = ⊥
IsWrongNext signature here outputs lines (Fault at kinds.Label) = (at ≡ here) × BeginsNoLabel signature lines
IsWrongNext signature here outputs lines (Fault at kinds.Ax) = (at ≡ here) × BeginsOutOfTurn signature outputs lines
IsWrongNext signature here outputs lines Memory = ⊤

-- Lines of labels, of which the first has this number: the line of some number behind it is the first that is wrong.
module _ (signature : Signature) (first : ℕ) (lines : List ℕ) (at : ℕ) where
  -- behind lines of labels that may stand there, it is that of no label over the signature
  pub record HasWrongLabel : Type 0 where
    pub labels : List Label
    pub rest : List ℕ
    pub place : at ≡ first + length labels
    pub written : AreWritten signature 0 labels
    pub good : lines ≡ label_lines signature labels rest
    pub more : rest ≢ []
    pub wrong : BeginsNoLabel signature rest

  -- or it is that of such a label, but not in turn
  pub record HasWrongTurn : Type 0 where
    pub labels : List Label
    pub rest : List ℕ
    pub place : at ≡ first + length labels
    pub written : AreWritten signature 0 labels
    pub good : lines ≡ label_lines signature labels rest
    pub wrong : BeginsOutOfTurn signature (outputs_after 0 labels) rest

-- the same of what a refusal says; want of memory says nothing of the lines
abbrev pub HasWrongLine : Signature → ℕ → List ℕ → TraceRefusal → Type 0
HasWrongLine signature first lines (Fault at kinds.NoTrace) = ⊥
HasWrongLine signature first lines (Fault at kinds.Header) = ⊥
HasWrongLine signature first lines (Fault at kinds.Model) = ⊥
HasWrongLine signature first lines (Fault at kinds.Side) = ⊥
HasWrongLine signature first lines (Fault at kinds.Label) = HasWrongLabel signature first lines at
HasWrongLine signature first lines (Fault at kinds.Ax) = HasWrongTurn signature first lines at
HasWrongLine signature first lines Memory = ⊤

module _ (signature : Signature) (bytes : List ℕ) (at : ℕ) where
  -- line 1 is neither `trace 1` nor `trace 2`
  pub record HasHeaderFault : Type 0 where
    pub first : at ≡ 1
    pub not_first_format : ¬ BeginsWith first_header bytes
    pub not_second_format : ¬ BeginsWith second_header bytes

  -- line 2 behind `trace 2` names no model
  pub record HasModelFault : Type 0 where
    pub second : at ≡ 2
    pub rest : List ℕ
    pub header : bytes ≡ line second_header rest
    pub no_model : (model : ModelName) → ¬ BeginsWith (model_line model) rest

  -- the line behind the heading names no side
  pub record HasSideFault : Type 0 where
    pub model : Option ModelName
    pub place : at ≡ heading_lines model + 1
    pub rest : List ℕ
    pub good : bytes ≡ heading model rest
    pub no_side : (side : Side) → ¬ BeginsWith (side_line side) rest

  -- a line behind that of the side is no label over the signature
  pub record HasLabelFault : Type 0 where
    pub model : Option ModelName
    pub side : Side
    pub lines : List ℕ
    pub good : bytes ≡ heading model (line (side_line side) lines)
    pub wrong : HasWrongLabel signature (heading_lines model + 2) lines at

  -- or it is one, but not in turn
  pub record HasAxFault : Type 0 where
    pub model : Option ModelName
    pub side : Side
    pub lines : List ℕ
    pub good : bytes ≡ heading model (line (side_line side) lines)
    pub wrong : HasWrongTurn signature (heading_lines model + 2) lines at

-- The line of this number, from 1, is the first that is wrong, and this is what is wrong with it. That a report holds no
-- trace is no fault of a trace.
abbrev pub HasTraceFault : Signature → List ℕ → ℕ → TraceKind → Type 0
HasTraceFault signature bytes at kinds.NoTrace = ⊥
HasTraceFault signature bytes at kinds.Header = HasHeaderFault signature bytes at
HasTraceFault signature bytes at kinds.Model = HasModelFault signature bytes at
HasTraceFault signature bytes at kinds.Side = HasSideFault signature bytes at
HasTraceFault signature bytes at kinds.Label = HasLabelFault signature bytes at
HasTraceFault signature bytes at kinds.Ax = HasAxFault signature bytes at

-- what the refusal says; want of memory says nothing of the bytes
abbrev pub IsRefusedFor : Signature → List ℕ → TraceRefusal → Type 0
IsRefusedFor signature bytes (Fault at kind) = HasTraceFault signature bytes at kind
IsRefusedFor signature bytes Memory = ⊤
