use Rattle.std.proofs.Common.{◌-◌, ◌≤◌}
use Rattle.dps_terms.specs.Tree.{node_count}
use Rattle.dps_terms.specs.Seen.{seen}
use Rattle.dps_terms.specs.Walk.{subterms_from}
use Rattle.dps_unify.proofs.Compared.{IsMatching}
use Rattle.dps_unify.proofs.matching.extend_match.Given as goal

abbrev pub invariant-loop-node : goal.invariant-loop-node
invariant-loop-node l = record {
  bounded : l.left ≤ node_count (seen l.term);
  matching : IsMatching l.free l.fn.solution (seen l.pattern) (seen l.term) l.solution (subterms_from (seen l.pattern) l.node) (subterms_from (seen l.term) (node_count (seen l.term) - l.left));
}
