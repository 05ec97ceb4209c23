use Rattle.std.proofs.Common.{◌∙◌, ap, refl}
use Rattle.dps_terms.specs.Tree.{Tree}
use Rattle.dps_terms.specs.Replace.{substitute}
use Rattle.dps_terms.specs.Bindings.{image}
use Rattle.dps_terms.specs.Seen.{seen}
use Rattle.dps_terms.specs.Views.{view_of}
use Rattle.dps_search.specs.Code.{branch_of, system_of}
use Rattle.dps_search.proofs.Rooted.{next_by_root}
use Rattle.dps_search.proofs.Turns.{next_of_first}
use Rattle.dps_search.proofs.task.step_of.Goals as goal

pub returns : goal.returns
returns c =
    let task = c.args.task.now in
    let system = system_of c.args.scene.now in
    let target = c.index-target.result.now in
    let term = substitute (image task.branch.theta) target.term in
    next_of_first system (branch_of task.branch) task.branch.targets.items task.passed target term c.next_step.result c.index-target.ensures refl
    (next_by_root system target.level (seen c.at_root-term.result) term task.passed c.next_step.result
    (c.at_root-term.ensures ∙ ap (λ (t : Tree). view_of (substitute (image task.branch.theta) t)) c.whole.ensures) c.next_step.ensures)
