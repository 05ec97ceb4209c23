use Rattle.std.proofs.Common.{ap, refl, sym, ◌∙◌}
use Rattle.dps_unify.specs.Difference.{pairs_of}
use Rattle.dps_unify.specs.Kept.{trees_of}
use Rattle.dps_unify.proofs.Pairs.{pairs_push}
use Rattle.dps_unify.proofs.Keeping.{same_kept}
use Rattle.dps_unify.proofs.pending.Pending.pop.Goals as goal

pub returns-in-Some-clause-kept : goal.returns-in-Some-clause-kept
returns-in-Some-clause-kept c b h =
    same_kept c.settle.new.self _ (trees_of c.settle.new.self) _
    (sym (ap pairs_of c.in-Some.ensures.items ∙ pairs_push c.pop.new.self.items c.in-Some.last))
    refl refl b (c.in_ok-settle.ensures.kept b h)
