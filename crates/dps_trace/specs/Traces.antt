-- Traces: a side and the labels that it shows, with the model of communication under which it shows them.
use Rattle.std.specs.Prelude.{List, Option}
use Rattle.dps_branch.specs.declared.Side.{Side}
use Rattle.dps_process.specs.Steps.{Label}
use Rattle.dps_trace.specs.declared.model.ModelName.{ModelName}

-- a trace of format 1 has no model
pub record Trace : Type 0 where
  pub model : Option ModelName
  pub side : Side
  pub labels : List Label
