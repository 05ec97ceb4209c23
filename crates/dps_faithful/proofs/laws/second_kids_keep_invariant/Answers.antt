use Rattle.dps_faithful.proofs.OtherKid.{second_is_sound}
use Rattle.dps_faithful.proofs.laws.second_kids_keep_invariant.Goals as goal

pub returns : goal.returns
returns c = λ problem node first second solution sound listed binds bound split low.
    second_is_sound problem node first second listed.config listed.ask solution sound listed.found binds bound split low
