use Rattle.std.proofs.Common.{subst}
use Rattle.dps_terms.specs.Tree.{var, StandsIn}
use Rattle.dps_terms.proofs.Listing.{variables_are_those}
use Rattle.dps_static.proofs.pivot.new_ways.Goals as goal

pub with_new_below-requires-clause-free : goal.with_new_below-requires-clause-free
with_new_below-requires-clause-free c =
    λ n k. rw (c.deref.ensures.value, c.in_ok-free.ensures) ((variables_are_those c.args.left.now n).1 (subst (StandsIn (var n)) c.whole.ensures k))
