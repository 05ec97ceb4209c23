use Rattle.dps_process.proofs.TraceEquivalence.{included_refl, included_trans, two_inclusions}
use Rattle.dps_process.proofs.laws.inclusion_is_a_preorder.Goals as goal

pub returns : goal.returns
returns c = record { reflexive = included_refl; transitive = included_trans; both = two_inclusions }
