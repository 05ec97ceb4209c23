use Rattle.std.proofs.lemmas.Result.{IfOk-weaker}
use Rattle.std.proofs.Common.{◌≡◌, List, ◌∷◌, drop}
use Rattle.dps_solver.specs.declared.scene.Target.{Target}
use Rattle.dps_search.specs.Code.{branch_of, scene_of}
use Rattle.dps_search.specs.Tasks.{IsEntered}
use Rattle.dps_search.specs.Meetings.{IsEnteredBy}
use Rattle.dps_search.proofs.Comparing.{same_leads, never_entered, entered_by}
use Rattle.dps_search.proofs.entering.enter.Goals as goal

pub returns-in-Never : goal.returns-in-Never
returns-in-Never c = λ z rest e.
    never_entered (scene_of c.args.scene.now) (branch_of c.args.branch.now) c.index-target.result.now z c.args.branch.now.targets.items rest c.args.entry e c.index-target.ensures
    c.in-Never.ensures

pub returns-in_ok-next-in-Same : goal.returns-in_ok-next-in-Same
returns-in_ok-next-in-Same c = λ z rest e.
    same_leads (scene_of c.args.scene.now) (branch_of c.args.branch.now) c.index-target.result.now z c.args.branch.now.targets.items rest c.args.entry e c.index-target.ensures
    (branch_of c.in_ok-next-in-Same.next) c.in-Same.ensures c.in_ok-next-in-Same.ensures

pub returns-in-Open : goal.returns-in-Open
returns-in-Open c =
    let scene = scene_of c.args.scene.now in
    let b = branch_of c.args.branch.now in
    let ts = c.args.branch.now.targets.items in
    IfOk-weaker c.enter_unified.result (λ o. IsEnteredBy scene b c.index-target.result.now (drop 1 ts) c.args.entry o)
    (λ o. (z : Target) (rest : List Target) → ts ≡ z ∷ rest → IsEntered scene b z rest c.args.entry o)
    (λ o h z rest e. entered_by scene b c.index-target.result.now z ts rest c.args.entry e c.index-target.ensures o h) c.enter_unified.ensures
