use Rattle.std.proofs.Common.{◌≡◌, ℕ, map}
use Rattle.std.specs.Prelude.{reverse}
use Rattle.dps_pool.proofs.Firsts.{first_stop}
use Rattle.dps_pool.proofs.Stacks.{pile, first_among}
use Rattle.dps_pool.proofs.one.explore_one.Given as goal

abbrev pub invariant-loop-node : goal.invariant-loop-node
invariant-loop-node g l = first_among g.N.Branching.place g.N.Branching.looks (reverse l.left.items) ≡ first_stop (g.N.Branching.looks l.fn.root)

abbrev pub decreases-loop-node : goal.decreases-loop-node
decreases-loop-node g l = pile (map g.N.Branching.looks l.left.items)
