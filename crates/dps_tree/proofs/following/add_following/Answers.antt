use Rattle.dps_tree.proofs.Nexts.{groups_of_next}
use Rattle.dps_tree.proofs.following.add_following.Goals as goal

pub returns : goal.returns
returns c =
    groups_of_next c.args.table.now c.args.channel c.args.group.now c.in_ok-next.next _ _ c.in_ok-next.ensures (rw c.deref.ensures.value at c.in_ok-add_groups.ensures)
