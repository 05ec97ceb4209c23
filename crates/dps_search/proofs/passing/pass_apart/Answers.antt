use Rattle.std.proofs.Common.{rules, ◌<◌, length, refl, arith}
use Rattle.dps_search.specs.declared.task.Task.{Task}
use Rattle.dps_search.specs.Code.{scene_of}
use Rattle.dps_search.proofs.Passed.{none_passed, one_passed}
use Rattle.dps_search.proofs.passing.pass_apart.Goals as goal

pub returns-then-is_empty-clause-later : goal.returns-then-is_empty-clause-later
returns-then-is_empty-clause-later c = none_passed (scene_of c.args.scene.now) c.args.task.now

pub loop-count-init : goal.loop-count-init
loop-count-init c = record {
  branch = refl;
  later = none_passed (scene_of c.args.scene.now) c.args.task.now;
  most = omega arith;
}

pub loop-count-preserved : goal.loop-count-preserved
loop-count-preserved c =
    let task : Task = c.loop-count.task in
    let new : Task = record { branch = task.branch; passed = c.in-Some.entry } in
    let some : 0 < length task.branch.targets.items = search rules in
    record {
      branch = c.loop-count.invariant.branch;
      later = one_passed (scene_of c.args.scene.now) c.args.task.now task new c.loop-count.count c.in-Some.entry some c.in-Some.ensures refl refl c.loop-count.invariant.later;
      most = omega (arith, c.loop-count-test.true);
    }
