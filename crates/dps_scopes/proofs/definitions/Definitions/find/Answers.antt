use Rattle.std.proofs.Common.{refl, ◌∙◌}
use Rattle.dps_signature.proofs.Positions.{same_place}
use Rattle.dps_scopes.specs.Definition.{Definition}
use Rattle.dps_scopes.proofs.definitions.Definitions.find.Goals as goal

pub returns : goal.returns
returns c =
    rw (← c.self.view_is) (c.get_index_of.ensures.index ∙ same_place (λ (d : Definition). d.name) _ (λ e. refl) c.args.name.now c.self.inside.processes.entries)
