-- Outputs in any order that the parts allow.
use Rattle.std.specs.Prelude.{◌≡◌, ℕ, List, [], ◌∷◌, ◌++◌}
use Rattle.dps_terms.specs.Tree.{Tree}
use Rattle.dps_process.specs.Process.{Process, nil, parallel, output}
use Rattle.dps_process.specs.Steps.{Config, Removes}

-- the parts that a process comes to without an output
abbrev pub settled : Process → List Process
settled nil = []
settled (parallel p q) = settled p ++ settled q
settled p = p ∷ []

-- the configuration, after an output on the channel
abbrev pub Follows : Config → ℕ → Config → Type 0
Follows k c next =
    (u : Tree) × (q : Process) × (rest : List Process)
    × Removes (output c u q) k.parts rest
    × (next ≡ record { parts = settled q ++ rest; frame = k.frame ++ u ∷ [] })

-- some part of the configuration is an output on the channel
abbrev pub Offers : Config → ℕ → Type 0
Offers k c = (u : Tree) × (q : Process) × (rest : List Process) × Removes (output c u q) k.parts rest
