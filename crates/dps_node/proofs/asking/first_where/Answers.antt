use Rattle.std.proofs.Common.{◌≡◌, false}
use Rattle.dps_node.specs.declared.asking.Found.{Found}
use Rattle.dps_node.specs.Asking.{is_plain_as}
use Rattle.dps_node.proofs.ReadPlain.{passed_more, passed_all, plain_by}
use Rattle.dps_node.proofs.asking.first_where.Goals as goal

pub loop-place-preserved : goal.loop-place-preserved
loop-place-preserved c =
    passed_more (λ (f : Found). is_plain_as c.args.levels.now c.args.plain f ≡ false) c.args.found.now c.loop-place.place c.index-found-place.result c.loop-place-test.true c.index-found-place.is
    (plain_by c.args.levels.now c.index-found-place.result c.args.plain c.binds_nothing.result false c.binds_nothing.ensures c.if-binds_nothing-plain.false) c.loop-place.invariant

pub returns : goal.returns
returns c = passed_all (λ (f : Found). is_plain_as c.args.levels.now c.args.plain f ≡ false) c.args.found.now c.loop-place.place c.loop-place-test.false c.loop-place.invariant
