use Rattle.dps_theory.specs.Theory.{Rule}
use Rattle.dps_theory.proofs.Overlapping.{small_variables}
use Rattle.dps_theory.proofs.rule.Rule.room.Goals as goal

pub room_of-requires : goal.room_of-requires
room_of-requires c =
    let r : Rule = record { left = c.self.inside.left; right = c.self.inside.right } in
    small_variables r (rw (← c.self.view_is) at c.requires)
