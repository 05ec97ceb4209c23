use Rattle.std.proofs.Common.{◌≡◌, ℕ, List, ◌++◌, length}
use Rattle.dps_tree.specs.Following.{AreMore}
use Rattle.dps_tree.proofs.Nexts.{LeadsBy}
use Rattle.dps_tree.proofs.following.add_groups.Given as goal

abbrev pub decreases-loop-message : goal.decreases-loop-message
decreases-loop-message l = length l.left.entries

abbrev pub invariant-loop-message : goal.invariant-loop-message
invariant-loop-message l =
    (done : List (ℕ × List (List ℕ))) × (l.fn.next.bags.entries ≡ done ++ l.left.entries) × AreMore (LeadsBy l.fn.frame done) l.fn.found.items l.found.items
