-- The names of models and of faults as they are written.
use Rattle.std.specs.Prelude.{ℕ, List, codes}
use Rattle.dps_process.specs.Models.{Model, Private, Classic, Eavesdrop}
use Rattle.dps_trace.specs.declared.model.ModelName.{ModelName}
use Rattle.dps_trace.specs.declared.model.ModelName.TheVariants as names
use Rattle.dps_trace.specs.declared.fault.TraceKind.{TraceKind}
use Rattle.dps_trace.specs.declared.fault.TraceKind.TheVariants as kinds

-- the model that is named
abbrev pub model_named : ModelName → Model
model_named names.Private = Private
model_named names.Classic = Classic
model_named names.Eavesdrop = Eavesdrop

abbrev pub kind_text : TraceKind → List ℕ
kind_text kinds.NoTrace = codes "no trace"
kind_text kinds.Header = codes "trace header"
kind_text kinds.Model = codes "trace model"
kind_text kinds.Side = codes "trace side"
kind_text kinds.Label = codes "trace label"
kind_text kinds.Ax = codes "trace ax"
