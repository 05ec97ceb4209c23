use Rattle.std.proofs.Common.{◌+◌, List, ℕ, sym, subst}
use Rattle.dps_process.specs.Process.{Process}
use Rattle.dps_semantics.proofs.Tables.{numbers_stay}
use Rattle.dps_semantics.proofs.Senders.{Begins, sender_more, sender_skip, sender_all}
use Rattle.dps_semantics.proofs.meeting.after_meetings.Goals as goal
use Rattle.dps_semantics.proofs.meeting.after_meetings.Goals.{then-not-is_repeated+in_ok-more+in_ok-join, else-not-is_repeated}

pub meetings_at-requires-clause-numbers : goal.meetings_at-requires-clause-numbers
meetings_at-requires-clause-numbers c = numbers_stay c.args.parts.now c.loop-index.parts c.args.bag.now c.loop-index.invariant.grown c.requires.numbers

pub loop-index-preserved : goal.loop-index-preserved
loop-index-preserved c =
    let p = c.args.problem.now in
    let old = c.args.parts.now in
    let bag = c.args.bag.now in
    let i = c.loop-index.index in
    elim c.if-not-is_repeated.branch [
      | then-not-is_repeated+in_ok-more+in_ok-join w ↦
          subst (λ (t : List Process). Begins p.model p.signature p.theory bag old c.requires.numbers (i + 1) t c.if-not-is_repeated.found) (sym w.parts-is)
          (subst (λ (f : List (List ℕ)). Begins p.model p.signature p.theory bag old c.requires.numbers (i + 1) w.meetings_at.new.parts f) (sym w.found-is)
          (sender_more p.model p.signature p.theory bag old c.requires.numbers i c.loop-index.parts w.meetings_at.new.parts c.loop-index.found w.in_ok-more.more w.join.new.self
          c.loop-index-test.true c.loop-index.invariant w.in_ok-more.ensures w.in_ok-join.ensures.added))
      | else-not-is_repeated w ↦
          subst (λ (t : List Process). Begins p.model p.signature p.theory bag old c.requires.numbers (i + 1) t c.if-not-is_repeated.found) (sym w.parts-is)
          (subst (λ (f : List (List ℕ)). Begins p.model p.signature p.theory bag old c.requires.numbers (i + 1) c.loop-index.parts f) (sym w.found-is)
          (sender_skip p.model p.signature p.theory bag old c.requires.numbers i c.loop-index.parts c.loop-index.found c.loop-index-test.true (c.is_repeated.ensures w.if-not-is_repeated.false)
          c.loop-index.invariant))
    ]

pub returns : goal.returns
returns c =
    let p = c.args.problem.now in
    sender_all p.model p.signature p.theory c.args.bag.now c.args.parts.now c.requires.numbers c.loop-index.index c.loop-index.parts c.loop-index.found c.loop-index-test.false c.loop-index.invariant
