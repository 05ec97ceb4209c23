use Rattle.std.proofs.Common.{◌≡◌, ◌+◌, ◌-◌, subst, arith}
use Rattle.dps_terms.specs.Tree.{node_count}
use Rattle.dps_terms.specs.Seen.{seen}
use Rattle.dps_terms.specs.Walk.{subterms_from}
use Rattle.dps_terms.proofs.Walking.{nodes_left}
use Rattle.dps_unify.specs.Comparing.{IsCompared}
use Rattle.dps_unify.proofs.Compared.{IsAt, IsMatching, grown_on, refused_here, stepped, compared_fits, ended}
use Rattle.dps_unify.proofs.matching.extend_match.Goals as goal

pub returns-in_err-compared-clause-grown : goal.returns-in_err-compared-clause-grown
returns-in_err-compared-clause-grown c =
    let free = c.args.free.now in
    let s = c.args.solution.now in
    let p = seen c.args.pattern in
    let t = seen c.args.term in
    let v = seen c.subterm-part.result in
    let u = seen c.subterm-other.result in
    let i = c.loop-node.node in
    let left = c.loop-node.left in
    let pattern : IsAt p i v = record { first = c.subterm-part.ensures.first; below = c.subterm-part.ensures.below; behind = c.subterm-part.ensures.behind; inside = c.subterm-part.ensures.inside } in
    let here : IsAt t (c.node_count-end.result - left) u = record {
      first = c.subterm-other.ensures.first;
      below = c.subterm-other.ensures.below;
      behind =
          c.subterm-other.ensures.behind;
      inside = c.subterm-other.ensures.inside;
    } in
    let term : IsAt t (node_count t - left) u = subst (λ n. IsAt t (n - left) u) c.node_count-end.ensures.count here in
    grown_on free s p t c.loop-node.solution i (node_count t - left) v u pattern term c.loop-node.invariant.matching c.match_node.new.solution c.in_err-compared.ensures.grown

pub returns-in-None-clause-found : goal.returns-in-None-clause-found
returns-in-None-clause-found c =
    let free = c.args.free.now in
    let s = c.args.solution.now in
    let p = seen c.args.pattern in
    let t = seen c.args.term in
    let v = seen c.subterm-part.result in
    let u = seen c.subterm-other.result in
    let i = c.loop-node.node in
    let left = c.loop-node.left in
    let pattern : IsAt p i v = record { first = c.subterm-part.ensures.first; below = c.subterm-part.ensures.below; behind = c.subterm-part.ensures.behind; inside = c.subterm-part.ensures.inside } in
    let here : IsAt t (c.node_count-end.result - left) u = record {
      first = c.subterm-other.ensures.first;
      below = c.subterm-other.ensures.below;
      behind =
          c.subterm-other.ensures.behind;
      inside = c.subterm-other.ensures.inside;
    } in
    let term : IsAt t (node_count t - left) u = subst (λ n. IsAt t (n - left) u) c.node_count-end.ensures.count here in
    refused_here free s p t c.loop-node.solution i (node_count t - left) v u pattern term c.loop-node.invariant.matching (rw c.in-None.is at c.in_ok-compared.ensures.found)

pub returns-in-None-clause-grown : goal.returns-in-None-clause-grown
returns-in-None-clause-grown c =
    let free = c.args.free.now in
    let s = c.args.solution.now in
    let p = seen c.args.pattern in
    let t = seen c.args.term in
    let v = seen c.subterm-part.result in
    let u = seen c.subterm-other.result in
    let i = c.loop-node.node in
    let left = c.loop-node.left in
    let pattern : IsAt p i v = record { first = c.subterm-part.ensures.first; below = c.subterm-part.ensures.below; behind = c.subterm-part.ensures.behind; inside = c.subterm-part.ensures.inside } in
    let here : IsAt t (c.node_count-end.result - left) u = record {
      first = c.subterm-other.ensures.first;
      below = c.subterm-other.ensures.below;
      behind =
          c.subterm-other.ensures.behind;
      inside = c.subterm-other.ensures.inside;
    } in
    let term : IsAt t (node_count t - left) u = subst (λ n. IsAt t (n - left) u) c.node_count-end.ensures.count here in
    grown_on free s p t c.loop-node.solution i (node_count t - left) v u pattern term c.loop-node.invariant.matching c.match_node.new.solution c.in_ok-compared.ensures.grown

pub loop-node-preserved : goal.loop-node-preserved
loop-node-preserved c =
    let free = c.args.free.now in
    let s = c.args.solution.now in
    let p = seen c.args.pattern in
    let t = seen c.args.term in
    let v = seen c.subterm-part.result in
    let u = seen c.subterm-other.result in
    let i = c.loop-node.node in
    let left = c.loop-node.left in
    let pattern : IsAt p i v = record { first = c.subterm-part.ensures.first; below = c.subterm-part.ensures.below; behind = c.subterm-part.ensures.behind; inside = c.subterm-part.ensures.inside } in
    let here : IsAt t (c.node_count-end.result - left) u = record {
      first = c.subterm-other.ensures.first;
      below = c.subterm-other.ensures.below;
      behind =
          c.subterm-other.ensures.behind;
      inside = c.subterm-other.ensures.inside;
    } in
    let term : IsAt t (node_count t - left) u = subst (λ n. IsAt t (n - left) u) c.node_count-end.ensures.count here in
    let step : IsCompared free c.loop-node.solution v u c.match_node.new.solution c.in-Some.compared = rw c.in-Some.is at c.in_ok-compared.ensures.found in
    let next : (node_count t - left) + c.in-Some.compared ≡ node_count t - (left - c.in-Some.compared) =
    omega (
      arith,
      c.loop-node.invariant.bounded,
      c.subterm-other.ensures.within,
      c.node_count-end.ensures.count,
      compared_fits free c.loop-node.solution v u c.match_node.new.solution c.in-Some.compared step,
    ) in
    record {
      bounded = omega (arith, c.loop-node.invariant.bounded);
      matching = subst (λ n. IsMatching free s p t c.match_node.new.solution (subterms_from p (i + 1)) (subterms_from t n)) next
          (stepped free s p t c.loop-node.solution i (node_count t - left) v u pattern term c.loop-node.invariant.matching c.match_node.new.solution c.in-Some.compared step);
    }

pub returns-clause-found : goal.returns-clause-found
returns-clause-found c =
    let p = seen c.args.pattern in
    let t = seen c.args.term in
    ended c.args.free.now c.args.solution.now p t c.loop-node.solution (subterms_from p c.loop-node.node) (subterms_from t (node_count t - c.loop-node.left))
    (nodes_left p c.loop-node.node (omega (arith, c.loop-node-test.false, c.node_count-node-end.ensures.count))) c.loop-node.invariant.matching
