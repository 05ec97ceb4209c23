use Rattle.dps_faithful.proofs.Dividing.{split_divides}
use Rattle.dps_faithful.proofs.laws.splits_give_to_one.Goals as goal

pub returns : goal.returns
returns c = λ problem node first second solution sound listed split low.
    split_divides problem node first second listed.config listed.ask solution sound listed.found split low
