use Rattle.std.proofs.Common.{◌≡◌, ℕ, length, refl, sym, subst, arith}
use Rattle.dps_tree.specs.Table.{HasMessage}
use Rattle.dps_tree.specs.declared.table.Table.{Table}
use Rattle.dps_tree.proofs.TableGrowth.{message_pushed}
use Rattle.dps_tree.proofs.table.Table.message_number.Goals as goal

pub returns : goal.returns
returns c =
    let old = c.args.self.now in
    let new : Table = record { messages = c.push.new.self; outputs = old.outputs; message_places = c.add.new.self; output_places = old.output_places } in
    let number : c.len-number.result ≡ length old.messages.items = omega (arith, c.len-number.ensures, old.messages.ok) in
    subst (λ (n : ℕ). HasMessage old new c.args.message.now n) (sym number) (message_pushed old new c.whole-3.result c.args.message.now refl c.in_ok-push.ensures.items c.whole-3.ensures)
