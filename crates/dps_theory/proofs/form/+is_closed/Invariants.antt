use Rattle.dps_terms.specs.Tree.{node_count}
use Rattle.dps_terms.specs.Kinds.{IsClosed}
use Rattle.dps_terms.specs.Seen.{seen}
use Rattle.dps_theory.proofs.Forms.{FirstArguments}
use Rattle.dps_theory.proofs.form.+is_closed.Given as goal

abbrev pub decreases-is_closed : goal.decreases-is_closed
decreases-is_closed l = node_count (seen l.term)

abbrev pub invariant-loop-index : goal.invariant-loop-index
invariant-loop-index l = FirstArguments IsClosed (seen l.term) l.index
