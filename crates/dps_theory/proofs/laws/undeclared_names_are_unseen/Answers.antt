use Rattle.dps_theory.proofs.NamesUnseen.{names_unseen}
use Rattle.dps_theory.proofs.laws.undeclared_names_are_unseen.Goals as goal

pub returns : goal.returns
returns c = names_unseen
