use Rattle.dps_scopes.proofs.Signatures.{HasFirstProjections}
use Rattle.dps_scopes.proofs.signature.push_projections.Given as goal

abbrev pub invariant-loop-index : goal.invariant-loop-index
invariant-loop-index l = HasFirstProjections l.members l.index l.initial.signature l.signature
