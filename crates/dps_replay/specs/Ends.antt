-- All ends of the runs of a side with some labels.
use Rattle.std.specs.Prelude.{◌↔◌, List}
use Rattle.dps_branch.specs.declared.Side.{Side}
use Rattle.dps_terms.specs.Tree.{Tree}
use Rattle.dps_process.specs.Problem.{Problem}
use Rattle.dps_process.specs.Steps.{Config, Label}
use Rattle.dps_process.specs.Traces.{IsTraceOf}
use Rattle.dps_semantics.specs.Settling.{AreJust}
use Rattle.dps_semantics.specs.Words.{EndsIn, HasFrame}

-- The list has just the settled configurations in which runs with these labels end, each in some order of its parts, and just
-- the last frames of the traces with them. There may be none.
pub record HasAllEnds (problem : Problem) (side : Side) (word : List Label) (configs : List Config) : Type 0 where
  pub just : AreJust (EndsIn problem side word) configs
  pub frames : (frame : List Tree) → HasFrame configs frame ↔ IsTraceOf problem side word frame
