use Rattle.std.proofs.Common.{◌+◌, ◌*◌}
use Rattle.dps_terms.specs.Tree.{node_count, IsSubterm}
use Rattle.dps_terms.specs.Seen.{seen}
use Rattle.dps_know.proofs.Parts.{FirstArguments}
use Rattle.dps_know.proofs.subterms.+subterms.Given as goal

abbrev pub decreases-is_strict_subterm : goal.decreases-is_strict_subterm
decreases-is_strict_subterm l = 2 * node_count (seen l.term)

abbrev pub decreases-is_subterm : goal.decreases-is_subterm
decreases-is_subterm l = 2 * node_count (seen l.term) + 1

abbrev pub invariant-is_strict_subterm-loop-index : goal.invariant-is_strict_subterm-loop-index
invariant-is_strict_subterm-loop-index l = FirstArguments (λ u. ¬ IsSubterm (seen l.part) u) (seen l.term) l.index
