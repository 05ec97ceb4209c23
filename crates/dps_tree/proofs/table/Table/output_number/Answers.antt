use Rattle.std.proofs.Common.{◌≡◌, ℕ, length, refl, sym, subst, arith}
use Rattle.dps_tree.specs.Table.{HasOutput}
use Rattle.dps_tree.specs.declared.table.Table.{Table}
use Rattle.dps_tree.proofs.TableGrowth.{output_found, output_pushed}
use Rattle.dps_tree.proofs.table.Table.output_number.Goals as goal

pub returns-in-Some : goal.returns-in-Some
returns-in-Some c = output_found c.args.self.now c.args.output c.in-Some.number (rw c.deref.ensures.value at c.in-Some.ensures)

pub returns : goal.returns
returns c =
    let old = c.args.self.now in
    let new : Table = record { messages = old.messages; outputs = c.push.new.self; message_places = old.message_places; output_places = c.add.new.self } in
    let number : c.len-number.result ≡ length old.outputs.items = omega (arith, c.len-number.ensures, old.outputs.ok) in
    subst (λ (n : ℕ). HasOutput old new c.args.output n) (sym number) (output_pushed old new c.args.output refl c.in_ok-push.ensures.items)
