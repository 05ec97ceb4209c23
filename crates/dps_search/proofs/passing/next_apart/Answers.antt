use Rattle.std.proofs.Common.{Option, Some, ap, ◌∙◌, subst}
use Rattle.dps_search.specs.declared.step.Step.{Step}
use Rattle.dps_search.specs.Code.{branch_of, scene_of}
use Rattle.dps_search.specs.Tasks.{IsNextOf}
use Rattle.dps_search.proofs.passing.next_apart.Goals as goal

pub returns-then-is_apart : goal.returns-then-is_apart
returns-then-is_apart c =
    let task = c.args.task.now in
    let scene = scene_of c.args.scene.now in (
      subst (λ (s : Option Step). IsNextOf scene.system (branch_of task.branch) task.branch.targets.items task.passed s)
          (c.in-Some-Use.is ∙ ap (λ (s : Step). Some s) c.in-Some-Use.field-0-is) c.step_of.ensures,
      c.is_apart.ensures c.if-is_apart.true,
    )
