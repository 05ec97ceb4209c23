-- What is answered of a word.
use Rattle.std.specs.Prelude.{◌≡◌, ◌↔◌, ◌-◌, ◌<◌, ◌≤◌, ℕ, List, take, length, Contains}
use Rattle.dps_branch.specs.declared.Side.{Side}
use Rattle.dps_terms.specs.Tree.{Tree}
use Rattle.dps_process.specs.Problem.{Problem, side_of}
use Rattle.dps_process.specs.Steps.{Config, start, Label}
use Rattle.dps_process.specs.Traces.{Runs, IsTraceOf}
use Rattle.dps_semantics.specs.Settling.{IsSettled, AreJust, EachStandsOnce}

-- a run of the side with this word leads to d, and only inputs and outputs stand there
pub record EndsIn (problem : Problem) (side : Side) (word : List Label) (d : Config) : Type 0 where
  pub run : Runs problem.model problem.signature problem.theory (start (side_of problem side)) word d
  pub settled : IsSettled d

-- some configuration of the list has the frame
abbrev pub HasFrame : List Config → List Tree → Type 0
HasFrame configs frame = (c : Config) × Contains configs c × (c.frame ≡ frame)

-- The list has just the settled configurations in which runs with this word end, each in some order of its parts, and just
-- the last frames of the traces with this word; there is one, and none stands twice.
pub record AreEnds (problem : Problem) (side : Side) (word : List Label) (configs : List Config) : Type 0 where
  pub just : AreJust (EndsIn problem side word) configs
  pub frames : (frame : List Tree) → HasFrame configs frame ↔ IsTraceOf problem side word frame
  pub some : 0 < length configs
  pub once : EachStandsOnce configs

-- The label with this number, counted from 1, is the first that no run passes.
pub record IsStuckAt (problem : Problem) (side : Side) (word : List Label) (n : ℕ) : Type 0 where
  pub counted : 1 ≤ n
  pub there : n ≤ length word
  pub passed : (frame : List Tree) × IsTraceOf problem side (take (n - 1) word) frame
  pub stuck : (frame : List Tree) → ¬ IsTraceOf problem side (take n word) frame
