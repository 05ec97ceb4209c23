use Rattle.std.proofs.Common.{rules, arith}
use Rattle.dps_elab.proofs.Turns.{fresh_turned}
use Rattle.dps_elab.proofs.settle.fresh.Goals as goal

pub returns : goal.returns
returns c = (
  fresh_turned c.args.scope c.args.stack.now.items c.push_name.new.stack.items c.args.body.now c.args.name.now c.push_name.new.name (search rules) (search rules) (search rules),
  omega arith,
)
