use Rattle.std.proofs.Common.{◌∙◌, List, ℕ, sym, subst}
use Rattle.std.proofs.lemmas.Result.{IfOk-weaker}
use Rattle.std.proofs.lemmas.List.Elements.{Contains-get_or}
use Rattle.dps_process.specs.Process.{Process}
use Rattle.dps_semantics.specs.Parts.{parts_of, StandForJust}
use Rattle.dps_semantics.specs.Meeting.{Takes, TakesNothing, TakesAt}
use Rattle.dps_semantics.proofs.Lists.{of_some, of_none}
use Rattle.dps_semantics.proofs.Places.{part_at}
use Rattle.dps_semantics.proofs.Tables.{just_none}
use Rattle.dps_semantics.proofs.Meetings.{takes_nothing}
use Rattle.dps_semantics.proofs.Receptions.{reception_stands}
use Rattle.dps_semantics.proofs.meeting.reception_at.Goals as goal

pub part-requires : goal.part-requires
part-requires c = c.requires.numbers _ (Contains-get_or c.args.others.now c.args.index 0 c.requires.within)

pub returns-in_ok-both-in-Some : goal.returns-in_ok-both-in-Some
returns-in_ok-both-in-Some c =
    let old = c.args.parts.now in
    let new = c.comes_to.new.parts in
    let others = c.args.others.now in
    let i = c.args.index in
    let sent = c.args.sent.now in
    let theory = c.args.problem.now.theory in
    let same = c.part.ensures ∙ sym (part_at old others i c.requires.within) in
    let takes = of_some _ (Takes c.part.result.now sent.channel sent.message) c.in_ok-then.field-0 c.in-Some.then c.in_ok-then.ensures c.in-Some.is in
    IfOk-weaker c.joined-in-Some.result _ (λ bags. StandForJust (TakesAt theory sent.channel sent.message sent.then (parts_of old others) i) old new bags)
    (λ bags j. reception_stands theory sent.channel sent.message sent.then others i old new c.in-Some.then c.args.ones.now c.in_ok-theirs-in-Some.theirs c.in_ok-rest-in-Some.rest
    c.in_ok-both-in-Some.both bags c.requires.ones c.requires.numbers c.requires.within
    (subst (λ (p : Process). Takes p sent.channel sent.message c.in-Some.then) same takes) c.in_ok-theirs-in-Some.ensures
    (rw c.in_ok-without-in-Some.ensures.rest at c.in_ok-rest-in-Some.ensures) c.in_ok-both-in-Some.ensures j) c.joined-in-Some.ensures

pub returns-in-None : goal.returns-in-None
returns-in-None c =
    let old = c.args.parts.now in
    let others = c.args.others.now in
    let i = c.args.index in
    let sent = c.args.sent.now in
    let theory = c.args.problem.now.theory in
    let same = c.part.ensures ∙ sym (part_at old others i c.requires.within) in
    let nothing = of_none _ (Takes c.part.result.now sent.channel sent.message) c.in_ok-then.field-0 c.in_ok-then.ensures c.in-None.is in
    let none = subst (λ (p : Process). TakesNothing p sent.channel sent.message) same nothing in
    subst (λ (bags : List (List ℕ)). StandForJust (TakesAt theory sent.channel sent.message sent.then (parts_of old others) i) old old bags) (sym c.new.ensures)
    (just_none (TakesAt theory sent.channel sent.message sent.then (parts_of old others) i) old (λ qs. takes_nothing theory sent.channel sent.message sent.then (parts_of old others) i qs none))
