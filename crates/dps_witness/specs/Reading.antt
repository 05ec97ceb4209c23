-- Which trace a file holds, and the first line that is wrong.
use Rattle.std.specs.Prelude.{◌≡◌, ◌⊎◌, ℕ, ◌+◌, List, Option, Some, None, codes, ⊤}
use Rattle.dps_path.specs.Text.{IsPath}
use Rattle.dps_signature.specs.Signature.{Signature}
use Rattle.dps_process.specs.declared.model.CommModel.{CommModel}
use Rattle.dps_trace.specs.declared.model.ModelName.{ModelName}
use Rattle.dps_trace.specs.declared.fault.TraceKind.{TraceKind}
use Rattle.dps_trace.specs.declared.fault.TraceKind.TheVariants as kinds
use Rattle.dps_trace.specs.declared.fault.TraceRefusal.{TraceRefusal}
use Rattle.dps_trace.specs.declared.fault.TraceRefusal.TheVariants.{Fault, Memory}
use Rattle.dps_trace.specs.Traces.{Trace}
use Rattle.dps_trace.specs.Text.{IsTraceText, heading}
use Rattle.dps_trace.specs.Faults.{BeginsWith, HasTraceFault}
use Rattle.dps_report.specs.declared.outcome.Outcome.TheVariants.{NotEquivalent}
use Rattle.dps_report.specs.Reports.{IsReport}
use Rattle.dps_witness.specs.declared.source.Source.{Source}
use Rattle.dps_witness.specs.declared.source.Source.TheVariants.{Alone, InReport, Missing}
use Rattle.dps_witness.specs.Models.{run_model}

-- the first line is that of a report
abbrev pub BeginsReport : List ℕ → Type 0
BeginsReport bytes = BeginsWith (codes "report 1") bytes ⊎ BeginsWith (codes "report 2") bytes

-- the file is a report of an attack, with this text of its trace
pub record IsAttackReport (bytes text : List ℕ) : Type 0 where
  pub model : Option ModelName
  pub node : List ℕ
  pub report : IsReport (NotEquivalent model node text) bytes

-- The text of a trace that the file holds, behind so many lines: the file itself, or the trace of a report.
pub data Holds (bytes text : List ℕ) (before : ℕ) : Type 0 where
  alone : ¬ BeginsReport bytes → text ≡ bytes → before ≡ 0 → Holds bytes text before
  in_report : BeginsReport bytes → IsAttackReport bytes text → before ≡ 3 → Holds bytes text before

-- The file begins as a report does, and is none of an attack.
pub record HoldsNone (bytes : List ℕ) : Type 0 where
  pub begins : BeginsReport bytes
  pub none : (model : Option ModelName) (node text : List ℕ) → IsPath node → ¬ IsReport (NotEquivalent model node text) bytes

-- what was found in the file
abbrev pub IsSource : List ℕ → Source → Type 0
IsSource bytes Alone = ¬ BeginsReport bytes
IsSource bytes (InReport text) = BeginsReport bytes × IsAttackReport bytes text
IsSource bytes Missing = HoldsNone bytes

-- the text is that of the trace, which is looked at under the model
pub record IsRead (signature : Signature) (option : Option CommModel) (text : List ℕ) (trace : Trace) (model : CommModel) : Type 0 where
  pub text_is : IsTraceText signature trace text
  pub runs_in : run_model option trace.model ≡ Some model

-- the text names a model under which it is not looked at
pub record NamesOther (option : Option CommModel) (text : List ℕ) : Type 0 where
  pub name : ModelName
  pub rest : List ℕ
  pub begins : text ≡ heading (Some name) rest
  pub other : run_model option (Some name) ≡ None

-- The first line of the text that is wrong: line 2, where it names such a model; else that of a trace's text.
pub data HasFault (signature : Signature) (option : Option CommModel) (text : List ℕ) (at : ℕ) (kind : TraceKind) : Type 0 where
  of_model : NamesOther option text → at ≡ 2 → kind ≡ kinds.Model → HasFault signature option text at kind
  of_text : ¬ NamesOther option text → HasTraceFault signature text at kind → HasFault signature option text at kind

-- what a refusal says; want of memory says nothing
abbrev pub IsRefusal : Signature → Option CommModel → List ℕ → TraceRefusal → Type 0
IsRefusal signature option text (Fault at kind) = HasFault signature option text at kind
IsRefusal signature option text Memory = ⊤

-- The first line of the file that is wrong, and what is wrong with it.
pub data IsFaulty (signature : Signature) (option : Option CommModel) (bytes : List ℕ) (at : ℕ) (kind : TraceKind) : Type 0 where
  no_trace : HoldsNone bytes → at ≡ 1 → kind ≡ kinds.NoTrace → IsFaulty signature option bytes at kind
  in_text : (text : List ℕ) (before inner : ℕ) → Holds bytes text before → HasFault signature option text inner kind → at ≡ before + inner → IsFaulty signature option bytes at kind
