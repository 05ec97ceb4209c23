use Rattle.dps_terms.specs.Tree.{node_count}
use Rattle.dps_terms.specs.Seen.{seen}
use Rattle.dps_theory.proofs.CheckableRules.{HasSmallLeaves}
use Rattle.dps_theory.proofs.Forms.{FirstArguments}
use Rattle.dps_theory.proofs.checkable.+has_rule_leaves.Given as goal

abbrev pub decreases-has_rule_leaves : goal.decreases-has_rule_leaves
decreases-has_rule_leaves l = node_count (seen l.term)

abbrev pub invariant-loop-index : goal.invariant-loop-index
invariant-loop-index l = FirstArguments HasSmallLeaves (seen l.term) l.index
