use Rattle.std.proofs.Common.{rules}
use Rattle.dps_terms.specs.Digest.{mixed}
use Rattle.dps_terms.proofs.digests.mixed.Goals as goal

pub returns : goal.returns
unfolding mixed
returns c = search rules
