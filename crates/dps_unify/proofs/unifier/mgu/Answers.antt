use Rattle.dps_unify.specs.Kept.{trees_of}
use Rattle.dps_unify.proofs.Unifying.{mgu_end}
use Rattle.dps_unify.proofs.unifier.mgu.Goals as goal

pub returns-in_ok-unifier-in-Some : goal.returns-in_ok-unifier-in-Some
returns-in_ok-unifier-in-Some c =
    rw (c.in_ok-unifier-in-Some.ensures, ← c.in_ok-new.ensures.pairs)
    (mgu_end c.args.order.now.levels.items (trees_of c.in_ok-new.field-0) c.in-Some.bindings (rw c.in-Some.is at c.in_ok-bindings.ensures))
