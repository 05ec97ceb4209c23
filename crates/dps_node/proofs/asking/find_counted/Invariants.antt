use Rattle.std.proofs.Common.{◌≡◌, ◌+◌, ◌-◌, ◌<◌, ◌≤◌, map, take, length}
use Rattle.std.specs.Prelude.{All}
use Rattle.dps_search.specs.Code.{scene_of}
use Rattle.dps_node.specs.declared.asking.Found.{Found}
use Rattle.dps_node.specs.Questions.{FindsAll}
use Rattle.dps_node.specs.Asking.{query_of, found_in}
use Rattle.dps_node.proofs.asking.find_counted.Given as goal

abbrev pub invariant-loop-place : goal.invariant-loop-place
invariant-loop-place l = record {
  finds : FindsAll (scene_of l.scene) (take l.place (map query_of l.question)) (map (found_in (map query_of l.question)) l.found.items) (l.steps.used - (l.fn.steps.used + 1));
  begun : l.fn.steps.used + 1 ≤ l.steps.used;
  within : l.steps.used ≤ l.steps.budget;
  budget : l.steps.budget ≡ l.fn.steps.budget;
  places : All (λ (f : Found). f.place < length l.question) l.found.items;
}
