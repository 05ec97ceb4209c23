use Rattle.dps_faithful.proofs.InheritedFacts.{first_has_meaning}
use Rattle.dps_faithful.proofs.laws.first_kids_inherit_meaning.Goals as goal

pub returns : goal.returns
returns c = λ problem node first second solution sound listed binds split low.
    first_has_meaning problem node first second listed.config listed.ask solution sound listed.found binds split low
