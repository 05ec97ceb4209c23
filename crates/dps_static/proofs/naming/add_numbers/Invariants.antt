use Rattle.dps_terms.specs.Seen.{seen}
use Rattle.dps_terms.specs.Walk.{subterms_from}
use Rattle.dps_static.proofs.Numbers.{AddsUpTo}
use Rattle.dps_static.proofs.naming.add_numbers.Given as goal

abbrev pub invariant-loop-node : goal.invariant-loop-node
invariant-loop-node l = AddsUpTo l.fn.numbers l.numbers (seen l.tree) (subterms_from (seen l.tree) l.node)
