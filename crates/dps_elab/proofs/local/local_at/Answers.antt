use Rattle.std.proofs.Common.{arith, sym, ◌∙◌}
use Rattle.dps_elab.specs.Locals.{values}
use Rattle.dps_elab.proofs.Stack.{found, past_stack}
use Rattle.dps_elab.proofs.local.local_at.Goals as goal

pub returns-then-stack-position-clause-value : goal.returns-then-stack-position-clause-value
returns-then-stack-position-clause-value c = sym (past_stack c.args.stack.now c.args.frame c.args.number (omega arith))

pub returns-clause-value : goal.returns-clause-value
returns-clause-value c =
    c.local_below.ensures.value (values c.args.stack.now)
    ∙ sym (found c.args.stack.now c.args.frame c.args.number c.index-stack-position.result (omega arith) (omega arith) c.index-stack-position.is)
