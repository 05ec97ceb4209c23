use Rattle.dps_semantics.proofs.Closing.{captures_none}
use Rattle.dps_semantics.proofs.putting.put.Goals as goal

pub subst-requires : goal.subst-requires
subst-requires c =
    rw (c.in_ok-bind.ensures.ok, c.empty-by.ensures) (captures_none c.args.variable c.args.message c.args.process.now c.requires)
