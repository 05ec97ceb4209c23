-- Models that traces name.
use Rattle.std.proofs.Common.{◌≡◌, ◌≢◌, ℕ, false, List, [], Option, Some, None, refl, ap, sym, ◌∙◌}
use Rattle.std.specs.Prelude.{IsTrue}
use Rattle.std.proofs.lemmas.Option.{none-some}
use Rattle.dps_signature.specs.Signature.{Signature}
use Rattle.dps_process.specs.declared.model.CommModel.{CommModel}
use Rattle.dps_trace.specs.declared.model.ModelName.{ModelName}
use Rattle.dps_trace.specs.declared.fault.TraceKind.TheVariants as kinds
use Rattle.dps_trace.specs.declared.fault.TraceRefusal.{TraceRefusal}
use Rattle.dps_trace.specs.declared.fault.TraceRefusal.TheVariants.{Fault, Memory}
use Rattle.dps_trace.specs.Traces.{Trace}
use Rattle.dps_trace.specs.Text.{line, heading, side_line, label_lines, IsTraceText}
use Rattle.dps_trace.specs.Faults.{IsRefusedFor}
use Rattle.dps_trace.proofs.Apart.{headings_apart}
use Rattle.dps_witness.specs.Models.{or_private, run_model}
use Rattle.dps_witness.specs.Reading.{NamesOther, IsRead, of_model, of_text, IsRefusal}

pub false_is_no_answer : IsTrue false → ⊥
false_is_no_answer e = cc

-- a text with this heading
pub no_heading : (option : Option CommModel) (text : List ℕ) → ((model : Option ModelName) (rest : List ℕ) → text ≢ heading model rest) → ¬ NamesOther option text
no_heading option text none other = none (Some other.name) other.rest other.begins

pub heading_names : (option : Option CommModel) (text rest : List ℕ) (name : Option ModelName) → text ≡ heading name rest → run_model option name ≡ None → NamesOther option text
heading_names option text rest None e n = absurd (none-some (or_private option) (sym n))
heading_names option text rest (Some name) e n = record { name = name; rest = rest; begins = e; other = n }

pub heading_agrees : (option : Option CommModel) (text rest : List ℕ) (name : Option ModelName) (model : CommModel) → text ≡ heading name rest → run_model option name ≡ Some model → ¬ NamesOther option text
heading_agrees option text rest name model e n other =
    let same = headings_apart name (Some other.name) rest other.rest (sym e ∙ other.begins) in
    none-some model (sym other.other ∙ (ap (run_model option) (sym same.model) ∙ n))

-- a text that names another model
pub fault_of_model : (signature : Signature) (option : Option CommModel) (text : List ℕ) → NamesOther option text → IsRefusal signature option text (Fault 2 kinds.Model)
fault_of_model signature option text other = of_model other refl refl

-- a wrong line of a text that does not
pub fault_of_text :
    (signature : Signature) (option : Option CommModel) (text : List ℕ) (refusal : TraceRefusal) → ¬ NamesOther option text → IsRefusedFor signature text refusal → IsRefusal signature option text refusal
fault_of_text signature option text (Fault at kind) not h = of_text not h
fault_of_text signature option text Memory not h = tt

-- a trace names no other model
pub trace_names : (signature : Signature) (option : Option CommModel) (text : List ℕ) (trace : Trace) → IsTraceText signature trace text → run_model option trace.model ≡ None → NamesOther option text
trace_names signature option text trace h n = heading_names option text (line (side_line trace.side) (label_lines signature trace.labels [])) trace.model h.text n

pub trace_read :
    (signature : Signature) (option : Option CommModel) (text : List ℕ) (trace : Trace) (model : CommModel) → IsTraceText signature trace text → Some model ≡ run_model option trace.model
    → IsRead signature option text trace model
trace_read signature option text trace model h e = record { text_is = h; runs_in = sym e }

pub ruleset for_read = (fault_of_model, fault_of_text, trace_names, trace_read)
