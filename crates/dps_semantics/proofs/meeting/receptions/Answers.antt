use Rattle.std.proofs.Common.{◌+◌, List, ℕ, sym, subst}
use Rattle.dps_process.specs.Process.{Process}
use Rattle.dps_semantics.specs.Coming.{ComesTo}
use Rattle.dps_semantics.proofs.Tables.{just_here, just_stays, numbers_stay}
use Rattle.dps_semantics.proofs.Receptions.{Receives, reception_more, reception_skip, reception_all}
use Rattle.dps_semantics.proofs.meeting.receptions.Goals as goal
use Rattle.dps_semantics.proofs.meeting.receptions.Goals.{then-not-is_repeated+in_ok-more+in_ok-join, else-not-is_repeated}

pub reception_at-requires-clause-ones : goal.reception_at-requires-clause-ones
reception_at-requires-clause-ones c =
    let comes = ComesTo c.args.problem.now.theory c.args.sent.now.then in
    just_here comes c.args.parts.now c.loop-index.parts c.args.ones.now
    (just_stays comes c.args.parts.now c.args.parts.now c.loop-index.parts c.args.ones.now c.requires.ones c.loop-index.invariant.grown)

pub reception_at-requires-clause-numbers : goal.reception_at-requires-clause-numbers
reception_at-requires-clause-numbers c = numbers_stay c.args.parts.now c.loop-index.parts c.args.others.now c.loop-index.invariant.grown c.requires.numbers

pub loop-index-preserved : goal.loop-index-preserved
loop-index-preserved c =
    let theory = c.args.problem.now.theory in
    let sent = c.args.sent.now in
    let old = c.args.parts.now in
    let others = c.args.others.now in
    let i = c.loop-index.index in
    elim c.if-not-is_repeated.branch [
      | then-not-is_repeated+in_ok-more+in_ok-join w ↦
          subst (λ (t : List Process). Receives theory sent.channel sent.message sent.then others old c.requires.numbers (i + 1) t c.if-not-is_repeated.found) (sym w.parts-is)
          (subst (λ (f : List (List ℕ)). Receives theory sent.channel sent.message sent.then others old c.requires.numbers (i + 1) w.reception_at.new.parts f) (sym w.found-is)
          (reception_more theory sent.channel sent.message sent.then others old c.requires.numbers i c.loop-index.parts w.reception_at.new.parts c.loop-index.found w.in_ok-more.more
          w.join.new.self c.loop-index-test.true c.loop-index.invariant w.in_ok-more.ensures w.in_ok-join.ensures.added))
      | else-not-is_repeated w ↦
          subst (λ (t : List Process). Receives theory sent.channel sent.message sent.then others old c.requires.numbers (i + 1) t c.if-not-is_repeated.found) (sym w.parts-is)
          (subst (λ (f : List (List ℕ)). Receives theory sent.channel sent.message sent.then others old c.requires.numbers (i + 1) c.loop-index.parts f) (sym w.found-is)
          (reception_skip theory sent.channel sent.message sent.then others old c.requires.numbers i c.loop-index.parts c.loop-index.found c.loop-index-test.true
          (c.is_repeated.ensures w.if-not-is_repeated.false) c.loop-index.invariant))
    ]

pub returns : goal.returns
returns c =
    reception_all c.args.problem.now.theory c.args.sent.now.channel c.args.sent.now.message c.args.sent.now.then c.args.others.now c.args.parts.now c.requires.numbers c.loop-index.index
    c.loop-index.parts c.loop-index.found c.loop-index-test.false c.loop-index.invariant
