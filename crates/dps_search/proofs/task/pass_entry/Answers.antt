use Rattle.std.proofs.Common.{Option, subst}
use Rattle.dps_search.specs.declared.branch.Branch.{Branch}
use Rattle.dps_search.specs.Code.{branch_of, scene_of}
use Rattle.dps_search.specs.Tasks.{IsEntered}
use Rattle.dps_search.proofs.task.pass_entry.Goals as goal

pub returns-in-None-clause-used : goal.returns-in-None-clause-used
returns-in-None-clause-used c = λ z rest e.
    subst (λ (o : Option Branch). IsEntered (scene_of c.args.scene.now) (branch_of c.args.task.now.branch) z rest c.args.entry o) c.in-None.is (c.in_ok-used.ensures z rest e)
