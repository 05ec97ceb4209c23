use Rattle.std.proofs.Common.{get_or}
use Rattle.std.proofs.lemmas.Option.{slice_get-get_or}
use Rattle.dps_static.proofs.Numbers.{named_next, named_all}
use Rattle.dps_static.proofs.naming.names_for.Goals as goal

pub loop-one-preserved : goal.loop-one-preserved
loop-one-preserved c =
    named_next c.args.rigid.now c.args.taken.now c.loop-one.names.items c.push.new.self.items c.loop-one.from c.in_ok-number.number (get_or c.args.rigid.now c.loop-one.one-index 0)
    c.loop-one.one-index
    (slice_get-get_or c.args.rigid.now c.loop-one.one-index 0 c.loop-one-test.true) c.in_ok-number.ensures.later c.in_ok-number.ensures.free c.in_ok-push.ensures.items c.loop-one.invariant

pub returns : goal.returns
returns c = named_all c.args.rigid.now c.args.taken.now c.loop-one.names.items c.loop-one.from c.loop-one.one-index c.loop-one-test.false c.loop-one.invariant
