use Rattle.dps_faithful.proofs.FirstKid.{first_is_sound}
use Rattle.dps_faithful.proofs.laws.first_kids_keep_invariant.Goals as goal

pub returns : goal.returns
returns c = λ problem node first second solution sound listed binds split low.
    first_is_sound problem node first second listed.config listed.ask solution sound listed.found binds split low
