-- Which settled configurations follow others by a label.
use Rattle.std.specs.Prelude.{◌⊎◌, ◌↔◌, List, Contains}
use Rattle.dps_process.specs.Problem.{Problem}
use Rattle.dps_process.specs.Steps.{Config, Label, shows, Step}
use Rattle.dps_semantics.specs.Settling.{SettlesTo, IsOneOf, IsInSomeOrder}

-- a step that shows the label, and then silent steps lead from c to d, where only inputs and outputs stand
abbrev pub Follows : Problem → Config → Label → Config → Type 0
Follows problem c label d =
    (e : Config) × Step problem.model problem.signature problem.theory c (shows label) e × SettlesTo problem.model problem.signature problem.theory e d

-- d follows one of the list
abbrev pub FollowsOne : Problem → List Config → Label → Config → Type 0
FollowsOne problem configs label d = (c : Config) × Contains configs c × Follows problem c label d

-- just those that follow the list, each in some order of its parts
abbrev pub AreFollowing : Problem → List Config → Label → List Config → Type 0
AreFollowing problem configs label found = (k : Config) → IsOneOf found k ↔ IsInSomeOrder (FollowsOne problem configs label) k

-- the new list has those besides that follow c
abbrev pub AddsFollowing : Problem → Config → Label → List Config → List Config → Type 0
AddsFollowing problem c label old new = (k : Config) → IsOneOf new k ↔ (IsOneOf old k ⊎ IsInSomeOrder (Follows problem c label) k)
