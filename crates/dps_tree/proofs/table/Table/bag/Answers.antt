use Rattle.dps_tree.proofs.TableGrowth.{bag_settled}
use Rattle.dps_tree.proofs.table.Table.bag.Goals as goal

pub returns : goal.returns
returns c =
    bag_settled c.args.process.now c.args.self.now c.settle.new.self c.settle.new.numbers.items c.sort_unstable.new.self.items (rw c.new-numbers.ensures.items at c.in_ok-settle.ensures)
    c.sort_unstable.ensures.permutation
