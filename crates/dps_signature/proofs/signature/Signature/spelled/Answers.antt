use Rattle.std.proofs.Common.{subst}
use Rattle.dps_signature.specs.Spelled.{IsSpelled}
use Rattle.dps_signature.proofs.signature.Signature.spelled.Goals as goal

pub returns : goal.returns
returns c = subst IsSpelled c.self.view_is c.self.invariant.3
