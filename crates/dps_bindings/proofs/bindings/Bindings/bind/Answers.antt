use Rattle.dps_terms.proofs.Bound.{distinct_push}
use Rattle.dps_bindings.proofs.bindings.Bindings.bind.Goals as goal

pub invariant_of-self-2 : goal.invariant_of-self-2
invariant_of-self-2 c =
    let free = rw (← c.self.view_is) at c.requires in
    rw c.in_ok-push.ensures.items (distinct_push _ _ c.self.invariant free)
