-- Entries that are passed, one after the other.
use Rattle.std.proofs.Common.{◌≡◌, ℕ, ◌+◌, ◌<◌, List, length, refl, subst, arith}
use Rattle.std.specs.Prelude.{◌↔◌}
use Rattle.dps_solver.specs.Scene.{Scene}
use Rattle.dps_solver.specs.Search.{GeneralSolution}
use Rattle.dps_search.specs.declared.task.Task.{Task}
use Rattle.dps_search.specs.declared.task.Turn.TheVariants.{Moved}
use Rattle.dps_search.specs.Code.{branch_of}
use Rattle.dps_search.specs.Tasks.{TaskLists, IsLater, AreLater, IsNextApart}
use Rattle.dps_search.proofs.Turns.{go_use}

pub none_passed : (scene : Scene) (t : Task) → AreLater scene 0 t t
none_passed scene t ask list moves = (
  λ h. record { left = moves; lists_left = h; moves_are = omega arith },
  λ k. subst (λ m. TaskLists scene ask t list m) (let e : k.left ≡ moves = omega (arith, k.moves_are) in e) k.lists_left,
)

pub one_passed : (scene : Scene) (start old new : Task) (count i : ℕ) → 0 < length old.branch.targets.items
    → IsNextApart scene (branch_of old.branch) old.branch.targets.items old.passed i → new.branch ≡ old.branch → new.passed ≡ i
    → AreLater scene count start old → AreLater scene (count + 1) start new
one_passed scene start old new count i some h same p before ask list moves = (
  λ a. let k = (before ask list moves).0 a in
      let j = (turn list k.left).0 k.lists_left in
      record { left = j.left; lists_left = j.lists_left; moves_are = omega (arith, k.moves_are, j.moves_are) },
  λ k. (before ask list moves).1 (record {
    left = 1 + k.left;
    lists_left = (turn list (1 + k.left)).1 (record { left = k.left; lists_left = k.lists_left; moves_are = refl });
    moves_are = omega (arith, k.moves_are);
  }),
)
  where
    turn : (list : List GeneralSolution) (moves : ℕ) → TaskLists scene ask old list moves ↔ IsLater 1 (TaskLists scene ask new) list moves
    turn = (go_use scene ask old new some i Moved h.0 h.1 same p).1
