use Rattle.dps_bindings.proofs.pieces.put_before.Goals as goal

pub returns : goal.returns
returns c = rw c.in_ok-tree.ensures at c.set.ensures
