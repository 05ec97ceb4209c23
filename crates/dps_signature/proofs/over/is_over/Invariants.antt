use Rattle.dps_terms.specs.Seen.{seen}
use Rattle.dps_terms.specs.Walk.{subterms_from}
use Rattle.dps_signature.specs.Kinds.{IsOver}
use Rattle.dps_signature.specs.Over.{AreOver}
use Rattle.dps_signature.proofs.over.is_over.Given as goal

abbrev pub invariant-loop-node : goal.invariant-loop-node
invariant-loop-node l = AreOver l.signature (subterms_from (seen l.whole) l.node) → IsOver l.signature (seen l.whole)
