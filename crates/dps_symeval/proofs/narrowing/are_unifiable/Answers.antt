use Rattle.dps_symeval.proofs.Reducing.{unified}
use Rattle.dps_symeval.proofs.narrowing.are_unifiable.Goals as goal

pub returns-in-Some : goal.returns-in-Some
returns-in-Some c = unified _ _ _ (rw c.in-Some.is at c.in_ok-mgu.ensures)

pub returns : goal.returns
returns c = rw c.in-None.is at c.in_ok-mgu.ensures
