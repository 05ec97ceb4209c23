use Rattle.std.proofs.Common.{◌≡◌, drop}
use Rattle.dps_semantics.specs.Digest.{terms_digest}
use Rattle.dps_semantics.proofs.digest.terms_digest.Given as goal

abbrev pub invariant-loop-index : goal.invariant-loop-index
invariant-loop-index l = terms_digest l.digest (drop l.index l.terms) ≡ terms_digest 0 l.terms
