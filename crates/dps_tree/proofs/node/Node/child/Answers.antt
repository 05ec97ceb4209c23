use Rattle.std.proofs.Common.{refl}
use Rattle.dps_tree.proofs.node.Node.child.Goals as goal

pub following-requires : goal.following-requires
following-requires c = rw c.deref-2.ensures.value c.requires.left

pub following-requires-2 : goal.following-requires-2
following-requires-2 c = rw c.deref-3.ensures.value c.requires.right

pub returns : goal.returns
returns c =
    record {
      channels = rw (c.in_ok-push.ensures.items, c.in_ok-extend_from_slice.ensures.items, c.new-channels.ensures.items, c.deref.ensures.value) refl;
      left = rw c.deref-2.ensures.value at c.in_ok-following.ensures.following;
      right = rw c.deref-3.ensures.value at c.in_ok-following-2.ensures.following;
      named = record { left = c.in_ok-following.ensures.named; right = c.in_ok-following-2.ensures.named };
    }
