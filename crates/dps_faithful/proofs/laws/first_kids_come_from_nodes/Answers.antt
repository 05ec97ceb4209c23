use Rattle.dps_faithful.proofs.Inheriting.{first_comes_from}
use Rattle.dps_faithful.proofs.laws.first_kids_come_from_nodes.Goals as goal

pub returns : goal.returns
returns c = λ problem node first second solution t sound listed binds split low solves.
    first_comes_from problem node first second listed.config listed.ask solution sound listed.found binds split low t solves
