use Rattle.dps_tree.proofs.Holding.{contains_inserted}
use Rattle.dps_tree.proofs.Offering.{number_added}
use Rattle.dps_tree.proofs.following.add_offer.Goals as goal

pub returns-in_ok-insert : goal.returns-in_ok-insert
returns-in_ok-insert c =
    number_added c.args.table.now c.args.number c.in-Some.output.now c.args.channels.now.keys c.insert.new.self.keys c.in-Some.ensures
    (rw c.in_ok-insert.ensures.keys (contains_inserted c.args.channels.now.keys c.in-Some.output.now.channel))
