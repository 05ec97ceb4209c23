use Rattle.dps_unify.proofs.Unique.{mgu_is_one}
use Rattle.dps_unify.proofs.laws.mgu_is_one.Goals as goal

pub returns : goal.returns
returns c = λ levels pairs s t h k i x. mgu_is_one levels pairs t s k h x i
