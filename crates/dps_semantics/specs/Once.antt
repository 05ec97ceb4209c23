-- Configurations kept once.
use Rattle.std.specs.Prelude.{◌≡◌, ◌↔◌, ◌<◌, ℕ, List, [], length, get_or, Contains}
use Rattle.std.specs.List.Sorted.{IsNonDecreasing}
use Rattle.dps_terms.specs.Tree.{Tree}
use Rattle.dps_process.specs.Process.{Process}
use Rattle.dps_process.specs.Steps.{Config, IsReordered}
use Rattle.dps_semantics.specs.Settling.{IsOneOf}
use Rattle.dps_semantics.specs.Parts.{parts_of, AreNumbers, IsGrown}

-- both lists have the same configurations, each in some order of its parts
abbrev pub AreSame : List Config → List Config → Type 0
AreSame configs once = (k : Config) → IsOneOf configs k ↔ IsOneOf once k

-- the numbers stand for the processes, in some order, and are in ascending order themselves
pub record AreNumbersOf (processes old new : List Process) (numbers : List ℕ) : Type 0 where
  pub grown : IsGrown old new
  pub within : AreNumbers new numbers
  pub parts : IsReordered (parts_of new numbers) processes
  pub ascending : IsNonDecreasing numbers

-- the configuration at the place, and an empty one where there is none
abbrev pub config_at : List Config → ℕ → Config
config_at configs i = get_or configs i (record { parts = []; frame = [] })

-- the numbers stand at the place, and a configuration with the frame
abbrev pub IsKeyAt : List (List ℕ) → ℕ → List ℕ → Type 0
IsKeyAt keys i numbers = (i < length keys) × (get_or keys i [] ≡ numbers)

abbrev pub IsFrameAt : List Config → ℕ → List Tree → Type 0
IsFrameAt configs i frame = (i < length configs) × ((config_at configs i).frame ≡ frame)

abbrev pub IsKeptAt : List (List ℕ) → List Config → ℕ → List ℕ → List Tree → Type 0
IsKeptAt keys configs i numbers frame = IsKeyAt keys i numbers × IsFrameAt configs i frame

-- both stand at one of the places
abbrev pub IsKept : List (List ℕ) → List Config → List ℕ → List ℕ → List Tree → Type 0
IsKept keys configs places numbers frame = (i : ℕ) × Contains places i × IsKeptAt keys configs i numbers frame
