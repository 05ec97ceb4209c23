use Rattle.std.proofs.Common.{◌∙◌, List, ℕ, sym, subst}
use Rattle.std.proofs.lemmas.Result.{IfOk-weaker}
use Rattle.std.proofs.lemmas.List.Elements.{Contains-get_or}
use Rattle.dps_process.specs.Process.{Process}
use Rattle.dps_semantics.specs.Parts.{parts_of, AreNumbers, StandForJust, left_at}
use Rattle.dps_semantics.specs.Meeting.{Sends, SendsNothing, MeetsAt}
use Rattle.dps_semantics.specs.declared.meeting.Sent.{Sent}
use Rattle.dps_semantics.proofs.Lists.{of_some, of_none}
use Rattle.dps_semantics.proofs.Places.{part_at, left_numbers}
use Rattle.dps_semantics.proofs.Tables.{numbers_stay, just_none}
use Rattle.dps_semantics.proofs.Meetings.{meets_nothing}
use Rattle.dps_semantics.proofs.Senders.{meeting_stands}
use Rattle.dps_semantics.proofs.meeting.meetings_at.Goals as goal

pub part-requires : goal.part-requires
part-requires c = c.requires.numbers _ (Contains-get_or c.args.bag.now c.args.index 0 c.requires.within)

pub receptions-requires-clause-numbers : goal.receptions-requires-clause-numbers
receptions-requires-clause-numbers c =
    let old = c.args.parts.now in
    let mid = c.comes_to.new.parts in
    let rest = left_numbers old c.args.bag.now c.args.index c.requires.within c.requires.numbers in
    subst (AreNumbers mid) (sym (c.deref.ensures.value ∙ c.in_ok-others-in-Some.ensures.rest))
    (numbers_stay old mid (left_at c.args.index c.args.bag.now) c.in_ok-ones-in-Some.ensures.grown rest)

pub returns-in_ok-ones-in-Some : goal.returns-in_ok-ones-in-Some
returns-in_ok-ones-in-Some c =
    let p = c.args.problem.now in
    let old = c.args.parts.now in
    let mid = c.comes_to.new.parts in
    let new = c.receptions.new.parts in
    let bag = c.args.bag.now in
    let i = c.args.index in
    let sent = c.in-Some.sent in
    let same = c.part.ensures ∙ sym (part_at old bag i c.requires.within) in
    let sends = of_some _ (λ (s : Sent). Sends p.model p.signature p.theory c.part.result.now s.channel s.message s.then) c.in_ok-sent.field-0 sent c.in_ok-sent.ensures.sends c.in-Some.is in
    IfOk-weaker c.receptions.result _ (λ bags. StandForJust (MeetsAt p.model p.signature p.theory (parts_of old bag) i) old new bags)
    (λ bags j. meeting_stands p.model p.signature p.theory bag c.deref.result.now i sent.channel sent.message sent.then old mid new bags c.requires.numbers c.message_of.ensures.accepted
    (subst (λ (q : Process). Sends p.model p.signature p.theory q sent.channel sent.message sent.then) same sends) c.in_ok-ones-in-Some.ensures.grown
    (c.deref.ensures.value ∙ c.in_ok-others-in-Some.ensures.rest) j) c.receptions.ensures

pub returns-in-None : goal.returns-in-None
returns-in-None c =
    let p = c.args.problem.now in
    let old = c.args.parts.now in
    let bag = c.args.bag.now in
    let i = c.args.index in
    let same = c.part.ensures ∙ sym (part_at old bag i c.requires.within) in
    let nothing = of_none _ (λ (s : Sent). Sends p.model p.signature p.theory c.part.result.now s.channel s.message s.then) c.in_ok-sent.field-0 c.in_ok-sent.ensures.sends c.in-None.is in
    let none = subst (λ (q : Process). SendsNothing p.model p.signature p.theory q) same nothing in
    subst (λ (bags : List (List ℕ)). StandForJust (MeetsAt p.model p.signature p.theory (parts_of old bag) i) old old bags) (sym c.new.ensures)
    (just_none (MeetsAt p.model p.signature p.theory (parts_of old bag) i) old (λ qs. meets_nothing p.model p.signature p.theory (parts_of old bag) i qs none))
