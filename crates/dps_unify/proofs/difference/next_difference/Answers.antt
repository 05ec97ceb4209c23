use Rattle.dps_terms.specs.Seen.{seen}
use Rattle.dps_unify.specs.Kept.{trees_of}
use Rattle.dps_unify.proofs.Keeping.{apart_found, weight_taken, remains_taken}
use Rattle.dps_unify.proofs.difference.next_difference.Goals as goal

pub returns-in-Some-2-clause-found : goal.returns-in-Some-2-clause-found
returns-in-Some-2-clause-found c =
    apart_found c.args.bindings.now (trees_of c.args.pending.now) (trees_of c.loop-parts.pending) c.pop.new.self c.advance.new.self
    (seen c.in-Some.parts.left) (seen c.in-Some.parts.right) c.loop-parts.invariant.remains
    (rw c.in-Some.is at c.in_ok-parts.ensures.pairs)
    ((rw c.in-Some.is at c.in_ok-parts.ensures.kept) c.args.bindings.now c.loop-parts.invariant.known)
    (seen c.in-Some-2.difference.left) (seen c.in-Some-2.difference.right)
    (rw c.in-Some-2.is at c.in_ok-difference.ensures.pairs)

pub loop-parts-smaller : goal.loop-parts-smaller
loop-parts-smaller c =
    weight_taken c.args.bindings.now (trees_of c.args.pending.now) (trees_of c.loop-parts.pending) c.pop.new.self c.advance.new.self
    (seen c.in-Some.parts.left) (seen c.in-Some.parts.right) c.loop-parts.invariant.remains
    (rw c.in-Some.is at c.in_ok-parts.ensures.pairs)
    ((rw c.in-Some.is at c.in_ok-parts.ensures.kept) c.args.bindings.now c.loop-parts.invariant.known)
    c.requires.chain
    (rw c.in_default-2.is at c.in_ok-difference.ensures.pairs)

pub loop-parts-preserved : goal.loop-parts-preserved
loop-parts-preserved c = record {
  remains = remains_taken c.args.bindings.now (trees_of c.args.pending.now) (trees_of c.loop-parts.pending) c.pop.new.self c.advance.new.self
      (seen c.in-Some.parts.left) (seen c.in-Some.parts.right) c.loop-parts.invariant.remains
      (rw c.in-Some.is at c.in_ok-parts.ensures.pairs)
      ((rw c.in-Some.is at c.in_ok-parts.ensures.kept) c.args.bindings.now c.loop-parts.invariant.known)
      (rw c.in_default-2.is at c.in_ok-difference.ensures.pairs);
  known = rw c.in_default-2.is at c.in_ok-difference.ensures.kept;
}
