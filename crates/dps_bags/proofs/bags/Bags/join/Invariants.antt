use Rattle.std.proofs.Common.{map, length}
use Rattle.dps_bags.proofs.Taking.{TakesOver}
use Rattle.dps_bags.proofs.bags.Bags.join.Given as goal

abbrev pub invariant-loop-bag : goal.invariant-loop-bag
invariant-loop-bag l = TakesOver l.fn.self l.fn.other (map (λ bag. bag.items) l.left.items) l.self

abbrev pub decreases-loop-bag : goal.decreases-loop-bag
decreases-loop-bag l = length l.left.items
