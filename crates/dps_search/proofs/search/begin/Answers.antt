use Rattle.std.proofs.Common.{Option, subst}
use Rattle.dps_search.specs.declared.branch.Branch.{Branch}
use Rattle.dps_search.specs.Code.{scene_of, ask_of}
use Rattle.dps_search.specs.Agenda.{IsStart}
use Rattle.dps_search.proofs.Advancing.{begin_with, begin_without}
use Rattle.dps_search.proofs.search.begin.Goals as goal

pub returns-in_ok-push-in-Some : goal.returns-in_ok-push-in-Some
returns-in_ok-push-in-Some c =
    let scene = scene_of c.args.scene.now in
    let ask = ask_of c.args.ask.now in
    let start = subst (λ (o : Option Branch). IsStart scene ask o) c.in-Some.is c.in_ok-branch.ensures in (
      c.new.ensures.items,
      begin_with scene ask c.in-Some.branch c.in_ok-agenda-in-Some.agenda.items c.push.new.self.items start c.in_ok-agenda-in-Some.ensures.items c.in_ok-push-in-Some.ensures.items,
    )

pub returns-in-None : goal.returns-in-None
returns-in-None c =
    let scene = scene_of c.args.scene.now in
    let ask = ask_of c.args.ask.now in
    let start = subst (λ (o : Option Branch). IsStart scene ask o) c.in-None.is c.in_ok-branch.ensures in
    (c.new-in-None-2.ensures.items, begin_without scene ask c.new-in-None.result.items start c.new-in-None.ensures.items)
