use Rattle.dps_rules.proofs.bindings.bindings_text.Goals as goal

pub room-requires : goal.room-requires
room-requires c = rw (← c.first.view_is) at c.requires
