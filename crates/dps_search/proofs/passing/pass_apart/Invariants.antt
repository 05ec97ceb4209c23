use Rattle.std.proofs.Common.{◌≡◌, ◌≤◌, ◌-◌}
use Rattle.dps_search.specs.Code.{scene_of}
use Rattle.dps_search.specs.Tasks.{AreLater}
use Rattle.dps_search.proofs.passing.pass_apart.Given as goal

abbrev pub invariant-loop-count : goal.invariant-loop-count
invariant-loop-count l = record {
  branch : l.task.branch ≡ l.fn.task.branch;
  later : AreLater (scene_of l.scene) l.count l.fn.task l.task;
  most : l.count ≤ l.most;
}

abbrev pub decreases-loop-count : goal.decreases-loop-count
decreases-loop-count l = l.most - l.count
