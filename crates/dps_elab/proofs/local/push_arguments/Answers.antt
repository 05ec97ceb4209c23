use Rattle.std.proofs.Common.{take, ◌+◌, refl, rules}
use Rattle.dps_elab.proofs.Stack.{pushed_more}
use Rattle.dps_elab.proofs.local.push_arguments.Goals as goal

pub loop-written-preserved : goal.loop-written-preserved
loop-written-preserved c =
    let here = rw c.as_slice.ensures.value at c.argument_of-local.ensures in
    pushed_more c.args.stack.now.items c.loop-written.stack.items c.push.new.self.items c.args.frame c.args.arguments.now
    (take (c.loop-written.written-index + 1) c.args.arguments.now) c.loop-written.written-index c.written-item.result c.written-item.result
    c.argument_of-local.result c.loop-written.invariant (search rules) c.in_ok-push.ensures.items here c.loop-written-test.true c.written-item.is refl
