use Rattle.dps_search.proofs.entering.enter_same.Goals as goal

pub returns : goal.returns
returns c = rw c.in_ok-theta.ensures at c.enter_with.ensures
