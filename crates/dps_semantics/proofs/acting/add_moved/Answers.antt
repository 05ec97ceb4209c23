use Rattle.std.proofs.Common.{◌<◌, ◌∙◌, length, get_or, ap, sym, subst}
use Rattle.dps_theory.specs.Theory.{Theory}
use Rattle.dps_process.specs.Process.{Process, nil}
use Rattle.dps_process.specs.Steps.{Config}
use Rattle.dps_semantics.specs.Asking.{MovesAs, GoesOn, added_by}
use Rattle.dps_semantics.specs.declared.moving.Moved.{Moved}
use Rattle.dps_semantics.proofs.Lists.{of_some, item_is}
use Rattle.dps_semantics.proofs.Actions.{adds_one}
use Rattle.dps_semantics.proofs.acting.add_moved.Goals as goal

pub returns-in_ok-push-in-Some : goal.returns-in_ok-push-in-Some
returns-in_ok-push-in-Some c =
    let theory = c.args.problem.now.theory in
    let config = c.args.config.now in
    let i = c.args.index in
    let asked = c.args.asked.now in
    let moved = c.in-Some.moved in
    let within = subst (λ (k : Config). i < length k.parts) (sym c.config.view_is) c.requires.within in
    let same = item_is c.config.inside.parts.items i c.index.result.now nil c.index.ensures within ∙ ap (λ (k : Config). get_or k.parts i nil) c.config.view_is in
    let moves = of_some _ (λ (m : Moved). MovesAs c.theory.result.now c.index.result.now asked m) c.in_ok-moved.field-0 moved c.in_ok-moved.ensures c.in-Some.is in
    let goes = subst (λ (t : Theory). GoesOn t c.index.result.now asked moved.then (added_by moved.added)) c.theory.ensures.theory moves in
    adds_one theory asked config i moved.then (added_by moved.added) c.in_ok-after-in-Some.after c.args.found.now.items c.push.new.self.items c.theory.ensures.lawful.theory.accepted
    (subst (λ (p : Process). GoesOn theory p asked moved.then (added_by moved.added)) same goes) c.in_ok-after-in-Some.ensures c.in_ok-push-in-Some.ensures.items
