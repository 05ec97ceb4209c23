-- The configurations for which bags stand.
use Rattle.std.specs.Prelude.{◌≡◌, ℕ, List, map}
use Rattle.dps_terms.specs.Tree.{Tree}
use Rattle.dps_process.specs.Process.{Process}
use Rattle.dps_process.specs.Steps.{Config}
use Rattle.dps_semantics.specs.Parts.{parts_of}

-- the bag's parts with the frame
abbrev pub config_of : List Process → List Tree → List ℕ → Config
config_of table frame bag = record { parts = parts_of table bag; frame = frame }

-- those of the bags, one by one
abbrev pub AreConfigsOf : List Process → List (List ℕ) → List Tree → List Config → Type 0
AreConfigsOf table bags frame configs = configs ≡ map (config_of table frame) bags
