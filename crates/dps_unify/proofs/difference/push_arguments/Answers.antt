use Rattle.std.proofs.Common.{arith}
use Rattle.dps_terms.specs.Seen.{seen}
use Rattle.dps_terms.specs.Views.{arguments}
use Rattle.dps_unify.proofs.Pairs.{pushed_next, pushed_all}
use Rattle.dps_unify.proofs.difference.push_arguments.Goals as goal

pub loop-index-preserved : goal.loop-index-preserved
loop-index-preserved c =
    pushed_next c.args.pending.now.items c.loop-index.pending.items (record { left = c.argument.result; right = c.argument-in-loop-index.result }) _ (arguments (seen c.args.left))
    (arguments (seen c.args.right)) c.loop-index.index
    c.loop-index.invariant c.in_ok-push.ensures.items c.argument.ensures c.argument-in-loop-index.ensures

pub returns : goal.returns
returns c =
    pushed_all c.args.pending.now.items c.loop-index.pending.items (arguments (seen c.args.left)) (arguments (seen c.args.right)) c.loop-index.index
    c.loop-index.invariant (omega (arith, c.arity-index-end.ensures.number))
