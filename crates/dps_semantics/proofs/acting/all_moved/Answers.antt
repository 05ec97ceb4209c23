use Rattle.std.proofs.Common.{◌+◌, ◌<◌, ◌≤◌, ◌∙◌, List, length, get_or, ap, sym, subst, arith}
use Rattle.dps_process.specs.Process.{Process, nil}
use Rattle.dps_process.specs.Steps.{Config}
use Rattle.dps_semantics.specs.Parts.{IsNumbered}
use Rattle.dps_semantics.proofs.Lists.{item_is}
use Rattle.dps_semantics.proofs.Actions.{MovesBelow, moves_more, moves_same, moves_all}
use Rattle.dps_semantics.proofs.acting.all_moved.Goals as goal
use Rattle.dps_semantics.proofs.acting.all_moved.Goals.{then-number-known+in_ok-add_moved, else-number-known}

pub loop-index-preserved : goal.loop-index-preserved
loop-index-preserved c =
    let theory = c.args.problem.now.theory in
    let config = c.args.config.now in
    let asked = c.args.asked.now in
    let i = c.loop-index.index in
    let old = c.loop-index.seen in
    let new = c.number.new.self in
    let n = c.in_ok-number.number in
    let inside : i < length c.config.inside.parts.items = omega (arith, c.loop-index-test.true, c.len-index-end.ensures, c.config.inside.parts.ok) in
    let within = subst (λ (k : Config). i < length k.parts) c.config.view_is inside in
    let same = item_is c.config.inside.parts.items i c.index.result.now nil c.index.ensures inside ∙ ap (λ (k : Config). get_or k.parts i nil) c.config.view_is in
    let numbered = subst (λ (p : Process). IsNumbered old new p n) same c.in_ok-number.ensures in
    elim c.if-number-known.branch [
      | then-number-known+in_ok-add_moved w ↦
          subst (λ (ds : List Config). MovesBelow theory asked config (i + 1) new ds) (sym (ap (λ v. v.items) w.found-is))
          (moves_more theory asked config i n old new c.loop-index.found.items w.add_moved.new.found.items within c.loop-index.invariant numbered
          (w.if-number-known.true ∙ c.len-known.ensures) w.in_ok-add_moved.ensures)
      | else-number-known w ↦
          subst (λ (ds : List Config). MovesBelow theory asked config (i + 1) new ds) (sym (ap (λ v. v.items) w.found-is))
          (moves_same theory asked config i n old new c.loop-index.found.items within c.loop-index.invariant numbered (λ e. w.if-number-known.false (e ∙ sym c.len-known.ensures)))
    ]

pub returns-clause-moves : goal.returns-clause-moves
returns-clause-moves c =
    let i = c.loop-index.index in
    let inside : length c.config.inside.parts.items ≤ i = omega (arith, c.loop-index-test.false, c.len-index-end.ensures, c.config.inside.parts.ok) in
    moves_all c.args.problem.now.theory c.args.asked.now c.args.config.now i c.loop-index.seen c.loop-index.found.items (subst (λ (k : Config). length k.parts ≤ i) c.config.view_is inside)
    c.loop-index.invariant
