use Rattle.std.proofs.Common.{take, map}
use Rattle.dps_tree.specs.Following.{IsJust, OneGoesOn}
use Rattle.dps_tree.proofs.following.next_bags.Given as goal

abbrev pub invariant-loop-bag : goal.invariant-loop-bag
invariant-loop-bag l = IsJust (OneGoesOn l.fn.table (map (λ bag. bag.items) (take l.bag-index l.bag-items)) l.fn.channel) l.next
