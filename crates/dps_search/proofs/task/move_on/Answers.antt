use Rattle.std.proofs.Common.{Some, subst}
use Rattle.dps_search.specs.declared.step.Step.{Step}
use Rattle.dps_search.specs.Code.{branch_of, scene_of}
use Rattle.dps_search.specs.Tasks.{IsNextOf}
use Rattle.dps_search.proofs.Turns.{follow_result, compose_result, use_result}
use Rattle.dps_search.proofs.task.move_on.Goals as goal

pub returns-in-Follow : goal.returns-in-Follow
returns-in-Follow c =
    let old = c.args.task.now in
    let scene = scene_of c.args.scene.now in
    let next = subst (λ (s : Step). IsNextOf scene.system (branch_of old.branch) old.branch.targets.items old.passed (Some s)) c.in-Follow.is c.requires.next in
    follow_result scene old c.follow_variable.new.task c.requires.there c.in-Follow.variable c.follow_variable.result next
    c.follow_variable.ensures.moved c.follow_variable.ensures.followed c.follow_variable.ensures.none

pub returns-in-Compose : goal.returns-in-Compose
returns-in-Compose c =
    let old = c.args.task.now in
    let scene = scene_of c.args.scene.now in
    let next = subst (λ (s : Step). IsNextOf scene.system (branch_of old.branch) old.branch.targets.items old.passed (Some s)) c.in-Compose.is c.requires.next in
    compose_result scene old c.compose_term.new.task c.requires.there c.compose_term.result next
    c.compose_term.ensures.moved c.compose_term.ensures.composed c.compose_term.ensures.none

pub returns-in-Use : goal.returns-in-Use
returns-in-Use c =
    let old = c.args.task.now in
    let scene = scene_of c.args.scene.now in
    let next = subst (λ (s : Step). IsNextOf scene.system (branch_of old.branch) old.branch.targets.items old.passed (Some s)) c.in-Use.is c.requires.next in
    use_result scene old c.pass_entry.new.task c.requires.there c.in-Use.entry c.pass_entry.result next
    c.pass_entry.ensures.used c.pass_entry.ensures.same c.pass_entry.ensures.passed
