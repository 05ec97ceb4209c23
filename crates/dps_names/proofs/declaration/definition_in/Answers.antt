use Rattle.dps_names.proofs.DeclaringShapes.{definition_without}
use Rattle.dps_names.proofs.declaration.definition_in.Goals as goal

pub returns-in-None : goal.returns-in-None
returns-in-None c =
    definition_without _ _ _ _ _ _ _ _ _ c.in_ok-rest.ensures.found c.in_ok-name.ensures.found c.in_ok-rest-2.ensures.found c.in_ok-inside.ensures.found c.in-None.ensures
