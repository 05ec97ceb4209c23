use Rattle.std.proofs.Common.{take}
use Rattle.dps_elab.proofs.Stack.{IsPushing}
use Rattle.dps_elab.proofs.local.push_arguments.Given as goal

abbrev pub invariant-loop-written : goal.invariant-loop-written
invariant-loop-written l = IsPushing l.fn.stack.items l.stack.items l.frame (take l.written-index l.arguments)
