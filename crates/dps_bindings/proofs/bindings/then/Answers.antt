use Rattle.std.proofs.Common.{map, get_or}
use Rattle.std.proofs.lemmas.Option.{slice_get-get_or}
use Rattle.dps_terms.specs.Bindings.{image}
use Rattle.dps_bindings.specs.Putting.{under}
use Rattle.dps_bindings.proofs.Puts.{put_more, put_all}
use Rattle.dps_bindings.proofs.bindings.then.Goals as goal

pub loop-variable-preserved : goal.loop-variable-preserved
loop-variable-preserved c =
    let xs = c.args.variables.now in
    let i = c.loop-variable.variable-index in
    put_more c.args.by.now (map (under (image c.args.by.now)) c.args.before.now) c.loop-variable.after c.bind_once.new.after xs i (get_or xs i 0)
    c.loop-variable.invariant (slice_get-get_or xs i 0 c.loop-variable-test.true) c.in_ok-bind_once.ensures

pub returns : goal.returns
returns c =
    put_all c.args.by.now c.args.before.now c.loop-variable.after c.args.variables.now c.loop-variable.variable-index c.loop-variable.invariant c.loop-variable-test.false c.requires
