use Rattle.dps_terms.specs.Seen.{seen}
use Rattle.dps_terms.specs.Walk.{subterms_from}
use Rattle.dps_symeval.specs.Agenda.{IsFree, AreFree}
use Rattle.dps_symeval.proofs.agenda.holds_destructor.Given as goal

abbrev pub invariant-loop-node : goal.invariant-loop-node
invariant-loop-node l = AreFree l.theory (subterms_from (seen l.term) l.node) → IsFree l.theory (seen l.term)
