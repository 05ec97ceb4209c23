use Rattle.dps_terms.specs.Seen.{seen}
use Rattle.dps_unify.specs.Chain.{links}
use Rattle.dps_unify.proofs.Chains.{Follows}
use Rattle.dps_unify.proofs.bindings.Bindings.resolve.Given as goal

abbrev pub invariant-loop-number : goal.invariant-loop-number
invariant-loop-number l = Follows l.self (seen l.fn.term) (seen l.at)

abbrev pub decreases-loop-number : goal.decreases-loop-number
decreases-loop-number l = links l.self (seen l.at)
