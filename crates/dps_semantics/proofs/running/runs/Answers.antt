use Rattle.std.proofs.Common.{◌≡◌, ◌∙◌, ◌+◌, ◌<◌, ◌≤◌, [], List, length, map, take, sym, subst, refl, arith}
use Rattle.std.specs.Prelude.{vec_len}
use Rattle.dps_bags.proofs.Holding.{mapped_length}
use Rattle.dps_process.specs.Labels.{label_of}
use Rattle.dps_process.specs.Steps.{Config, Label}
use Rattle.dps_semantics.specs.Settling.{AreJust}
use Rattle.dps_semantics.specs.Words.{EndsIn}
use Rattle.dps_semantics.specs.Following.{AreFollowing}
use Rattle.dps_semantics.proofs.Lists.{mapped_more, taken_all, not_none, none_there, no_items_left}
use Rattle.dps_semantics.proofs.Ends.{SomeTrace, first_trace, ends_more, end_trace, some_end, ends_are, stuck_at}
use Rattle.dps_semantics.proofs.running.runs.Goals as goal

pub loop-index-init : goal.loop-index-init
loop-index-init c = (c.in_ok-ends.ensures.just, first_trace c.args.problem.now c.args.side, c.in_ok-ends.ensures.once)

pub loop-index-preserved : goal.loop-index-preserved
loop-index-preserved c =
    let p = c.args.problem.now in
    let side = c.args.side in
    let word = map label_of c.args.word.now in
    let i = c.loop-index.index in
    let label = label_of c.index-word-index.result in
    let old = c.loop-index.ends.items in
    let new = c.in_ok-ends-2.ends.items in
    let next = mapped_more label_of c.args.word.now i c.index-word-index.result c.index-word-index.is c.loop-index-test.true in
    let follow = subst (λ (cs : List Config). AreFollowing p cs label new) c.deref.ensures.value c.in_ok-ends-2.ensures.just in
    let just = subst (λ (w : List Label). AreJust (EndsIn p side w) new) (sym next) (ends_more p side (take i word) label old new c.loop-index.invariant.0 follow) in
    let n = not_none (vec_len c.in_ok-ends-2.ends) (sym c.is_empty.ensures ∙ c.if-is_empty.false) in
    (just, end_trace p side (take (i + 1) word) new just (omega (arith, n, c.in_ok-ends-2.ends.ok)), c.in_ok-ends-2.ensures.once)

pub returns-then-is_empty : goal.returns-then-is_empty
returns-then-is_empty c =
    let p = c.args.problem.now in
    let side = c.args.side in
    let word = map label_of c.args.word.now in
    let i = c.loop-index.index in
    let label = label_of c.index-word-index.result in
    let old = c.loop-index.ends.items in
    let new = c.in_ok-ends-2.ends.items in
    let next = mapped_more label_of c.args.word.now i c.index-word-index.result c.index-word-index.is c.loop-index-test.true in
    let follow = subst (λ (cs : List Config). AreFollowing p cs label new) c.deref.ensures.value c.in_ok-ends-2.ensures.just in
    let just = subst (λ (w : List Label). AreJust (EndsIn p side w) new) (sym next) (ends_more p side (take i word) label old new c.loop-index.invariant.0 follow) in
    let n = none_there (vec_len c.in_ok-ends-2.ends) (sym c.is_empty.ensures ∙ c.if-is_empty.true) in
    let none : new ≡ [] = no_items_left new (λ k. omega (arith, k, n, c.in_ok-ends-2.ends.ok)) in
    let within : i < length word = omega (arith, c.loop-index-test.true, mapped_length label_of c.args.word.now) in
    stuck_at p side word i (i + 1) new within refl c.loop-index.invariant.1 just none

pub returns : goal.returns
returns c =
    let p = c.args.problem.now in
    let side = c.args.side in
    let word = map label_of c.args.word.now in
    let i = c.loop-index.index in
    let ends = c.loop-index.ends.items in
    let past : length word ≤ i = omega (arith, c.loop-index-test.false, mapped_length label_of c.args.word.now) in
    let all = taken_all (λ (w : List Label). AreJust (EndsIn p side w) ends) word i past c.loop-index.invariant.0 in
    let trace = taken_all (λ (w : List Label). SomeTrace p side w) word i past c.loop-index.invariant.1 in
    ends_are p side word ends all c.loop-index.invariant.2 (some_end p side word ends all trace)
