use Rattle.dps_terms.specs.Seen.{seen}
use Rattle.dps_unify.specs.Kept.{trees_of}
use Rattle.dps_unify.proofs.Unifying.{progress_start, progress_end, searches_on, places_fall, never_unified, cycle_is_not_unifiable}
use Rattle.dps_unify.proofs.unifier.unify.Goals as goal

pub loop-bindings-init : goal.loop-bindings-init
loop-bindings-init c =
    record {
      progress = progress_start c.args.order.now.levels.items (trees_of c.args.pending) c.empty-bindings.result c.empty-bindings.ensures;
      known = c.requires c.empty-bindings.result;
    }

pub returns-then-not-branch : goal.returns-then-not-branch
returns-then-not-branch c =
    cycle_is_not_unifiable c.args.order.now.levels.items (trees_of c.args.pending) c.loop-bindings.bindings (trees_of c.loop-bindings.pending)
    (trees_of c.next_difference.new.pending) (seen c.in-Some.parts.left) (seen c.in-Some.parts.right) c.loop-bindings.invariant.progress
    (rw c.in-Some.is at c.in_ok-parts.ensures.found)
    c.in-Some-forced_binding.binding.variable (seen c.in-Some-forced_binding.binding.term) c.in-Some-forced_binding.ensures
    (rw c.if-not-branch.true at c.in_ok-bind-in-Some-forced_binding.ensures.cycle)

pub loop-bindings-smaller : goal.loop-bindings-smaller
loop-bindings-smaller c =
    places_fall c.args.order.now.levels.items (trees_of c.args.pending) c.loop-bindings.bindings (trees_of c.loop-bindings.pending)
    (trees_of c.next_difference.new.pending) (seen c.in-Some.parts.left) (seen c.in-Some.parts.right) c.loop-bindings.invariant.progress
    (rw c.in-Some.is at c.in_ok-parts.ensures.found)
    c.in-Some-forced_binding.binding.variable (seen c.in-Some-forced_binding.binding.term) c.in-Some-forced_binding.ensures
    (rw c.if-not-branch.false at c.in_ok-bind-in-Some-forced_binding.ensures.cycle)
    c.bind.new.bindings (rw c.if-not-branch.false at c.in_ok-bind-in-Some-forced_binding.ensures.added)

pub loop-bindings-preserved : goal.loop-bindings-preserved
loop-bindings-preserved c =
    searches_on c.args.order.now.levels.items (trees_of c.args.pending) c.loop-bindings.bindings c.loop-bindings.pending
    c.next_difference.new.pending (seen c.in-Some.parts.left) (seen c.in-Some.parts.right) c.loop-bindings.invariant
    (rw c.in-Some.is at c.in_ok-parts.ensures.found)
    (rw c.in-Some.is at c.in_ok-parts.ensures.kept)
    c.in-Some-forced_binding.binding.variable (seen c.in-Some-forced_binding.binding.term) c.in-Some-forced_binding.ensures
    (rw c.if-not-branch.false at c.in_ok-bind-in-Some-forced_binding.ensures.cycle)
    c.bind.new.bindings (rw c.if-not-branch.false at c.in_ok-bind-in-Some-forced_binding.ensures.added)

pub returns-in-None : goal.returns-in-None
returns-in-None c =
    never_unified c.args.order.now.levels.items (trees_of c.args.pending) c.loop-bindings.bindings (trees_of c.loop-bindings.pending)
    (trees_of c.next_difference.new.pending) (seen c.in-Some.parts.left) (seen c.in-Some.parts.right) c.loop-bindings.invariant.progress
    (rw c.in-Some.is at c.in_ok-parts.ensures.found) c.in-None.ensures

pub returns : goal.returns
returns c =
    progress_end c.args.order.now.levels.items (trees_of c.args.pending) c.loop-bindings.bindings (trees_of c.loop-bindings.pending) c.loop-bindings.invariant.progress
    (rw c.in_default.is at c.in_ok-parts.ensures.found)
