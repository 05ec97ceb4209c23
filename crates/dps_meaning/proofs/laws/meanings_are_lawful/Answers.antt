use Rattle.dps_meaning.proofs.LawfulMeanings.{meanings_are_lawful}
use Rattle.dps_meaning.proofs.laws.meanings_are_lawful.Goals as goal

pub returns : goal.returns
returns c =
    meanings_are_lawful c.programs_are_well_formed.ensures c.rules_are_checkable.ensures c.accepted_rules_join_projections.ensures c.sides_are_lawful.ensures c.binders_are_high.ensures
