use Rattle.std.proofs.Common.{subst, refl}
use Rattle.dps_process.specs.Process.{Process}
use Rattle.dps_tree.specs.Table.{IsSettled}
use Rattle.dps_tree.proofs.TableGrowth.{nil_settled, parallel_settled, output_settled}
use Rattle.dps_tree.proofs.table.Table.+settle.Goals as goal

pub returns-in-Nil : goal.returns-in-Nil
returns-in-Nil t c =
    subst (λ (p : Process). IsSettled p c.args.self.now c.args.self.now c.args.numbers.now.items c.args.numbers.now.items) c.in-Nil.ensures (nil_settled c.args.self.now c.args.numbers.now.items)

pub returns-in_ok-settle-in-Parallel-2 : goal.returns-in_ok-settle-in-Parallel-2
returns-in_ok-settle-in-Parallel-2 t c =
    subst (λ (p : Process). IsSettled p c.args.self.now c.settle-in-Parallel.new.self c.args.numbers.now.items c.settle-in-Parallel.new.numbers.items) c.in-Parallel.ensures
    (parallel_settled c.in-Parallel.left.now c.in-Parallel.right.now c.args.self.now c.settle.new.self c.settle-in-Parallel.new.self c.args.numbers.now.items c.settle.new.numbers.items
    c.settle-in-Parallel.new.numbers.items c.in_ok-settle-in-Parallel.ensures c.in_ok-settle-in-Parallel-2.ensures)

pub returns-in_ok-push-in-Output : goal.returns-in_ok-push-in-Output
returns-in_ok-push-in-Output t c =
    let below = rw c.new-below.ensures.items at c.in_ok-settle-in-Output.ensures in
    subst (λ (p : Process). IsSettled p c.args.self.now c.output_number.new.self c.args.numbers.now.items c.push.new.self.items) c.in-Output.ensures
    (output_settled c.in-Output.channel c.in-Output.message.now c.in-Output.then.now c.args.self.now c.settle-in-Output.new.self c.message_number.new.self c.output_number.new.self
    c.settle-in-Output.new.numbers.items c.sort_unstable.new.self.items c.args.numbers.now.items c.push.new.self.items c.in_ok-message-in-Output.message c.in_ok-number-in-Output.number _
    below c.sort_unstable.ensures.permutation c.in_ok-message-in-Output.ensures c.in_ok-number-in-Output.ensures refl refl refl c.in_ok-push-in-Output.ensures.items)
