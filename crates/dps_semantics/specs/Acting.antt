-- The configurations in which one part did what a label asks.
use Rattle.std.specs.Prelude.{◌≡◌, ◌⊎◌, ◌↔◌, ◌<◌, ℕ, List, ◌∷◌, [], ◌++◌, length, get_or, Contains}
use Rattle.dps_terms.specs.Tree.{Tree}
use Rattle.dps_theory.specs.Theory.{Theory}
use Rattle.dps_process.specs.Process.{Process, nil}
use Rattle.dps_process.specs.Steps.{Config}
use Rattle.dps_semantics.specs.Settling.{IsOneOf, IsInSomeOrder}
use Rattle.dps_semantics.specs.Parts.{left_at}
use Rattle.dps_semantics.specs.Asking.{GoesOn}
use Rattle.dps_semantics.specs.declared.moving.Asked.{Asked}

-- the process and the message in the place of a part
abbrev pub IsAfter : Config → ℕ → Process → List Tree → Config → Type 0
IsAfter c i then added d = d ≡ record { parts = then ∷ left_at i c.parts; frame = c.frame ++ added }

-- the part at the place did what is asked
abbrev pub ActsAt : Theory → Asked → Config → ℕ → Config → Type 0
ActsAt theory asked c i d = (then : Process) × (added : List Tree) × GoesOn theory (get_or c.parts i nil) asked then added × IsAfter c i then added d

abbrev pub Acts : Theory → Asked → Config → Config → Type 0
Acts theory asked c d = (i : ℕ) × (i < length c.parts) × ActsAt theory asked c i d

-- just the configurations in which one did
abbrev pub AreMoves : Theory → Asked → Config → List Config → Type 0
AreMoves theory asked c configs = (k : Config) → IsOneOf configs k ↔ IsInSomeOrder (Acts theory asked c) k

-- the new list has those besides in which the part at the place did
pub record AddsMoves (theory : Theory) (asked : Asked) (c : Config) (i : ℕ) (old new : List Config) : Type 0 where
  pub kept : (d : Config) → Contains old d → Contains new d
  pub added : (d : Config) → ActsAt theory asked c i d → Contains new d
  pub sound : (d : Config) → Contains new d → Contains old d ⊎ ActsAt theory asked c i d
  pub at_most_one : (new ≡ old) ⊎ ((d : Config) × ActsAt theory asked c i d × (new ≡ old ++ d ∷ []))
