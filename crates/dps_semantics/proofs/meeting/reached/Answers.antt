use Rattle.std.proofs.Common.{[], List, ℕ, sym, subst, arith}
use Rattle.std.specs.Prelude.{Contains}
use Rattle.std.proofs.lemmas.List.Elements.{Contains-get_or}
use Rattle.dps_semantics.specs.Parts.{parts_of, OneStandsFor, StandForJust}
use Rattle.dps_semantics.specs.Coming.{ComesByMeeting}
use Rattle.dps_semantics.proofs.Closure.{reach_none, reach_more, reach_all}
use Rattle.dps_semantics.proofs.meeting.reached.Goals as goal

pub loop-index-init : goal.loop-index-init
loop-index-init c =
    let p = c.args.problem.now in reach_none p.model p.signature p.theory c.args.parts.now c.args.bags c.requires

pub returns-then-index-len : goal.returns-then-index-len
returns-then-index-len c =
    let p = c.args.problem.now in
    reach_all p.model p.signature p.theory (OneStandsFor c.args.parts.now c.args.bags) c.loop-index.index c.args.parts.now c.loop-index.parts c.loop-index.found
    (omega (arith, c.if-index-len.true, c.len.ensures.count)) c.loop-index.invariant

pub after_meetings-requires-clause-numbers : goal.after_meetings-requires-clause-numbers
after_meetings-requires-clause-numbers c =
    let found = c.loop-index.found in
    let i = c.loop-index.index in
    c.loop-index.invariant.numbers c.bag.result.now
    (subst (λ (b : List ℕ). Contains found b) (sym c.bag.ensures.there) (Contains-get_or found i [] (omega (arith, c.if-index-len.false, c.len.ensures.count))))

pub loop-index-preserved : goal.loop-index-preserved
loop-index-preserved c =
    let p = c.args.problem.now in
    let mid = c.loop-index.parts in
    let new = c.after_meetings.new.parts in
    reach_more p.model p.signature p.theory (OneStandsFor c.args.parts.now c.args.bags) c.loop-index.index c.args.parts.now mid new c.loop-index.found c.in_ok-more.more c.join.new.self
    (omega (arith, c.if-index-len.false, c.len.ensures.count)) c.loop-index.invariant
    (subst (λ (b : List ℕ). StandForJust (ComesByMeeting p.model p.signature p.theory (parts_of mid b)) mid new c.in_ok-more.more) c.bag.ensures.there c.in_ok-more.ensures)
    c.in_ok-join.ensures.added c.in_ok-join.ensures.longer
