use Rattle.std.proofs.Common.{sym, subst, ◌∙◌}
use Rattle.dps_unify.specs.Kept.{AreNotedEqual}
use Rattle.dps_unify.proofs.Keeping.{noted_among}
use Rattle.dps_unify.proofs.pending.Pending.are_equal.Goals as goal

pub returns-in-Some : goal.returns-in-Some
returns-in-Some c e = subst (AreNotedEqual c.args.self.now) (sym c.in-Some.is) (noted_among c.args.self.now c.in-Some.pair (sym c.contains.ensures ∙ e))
