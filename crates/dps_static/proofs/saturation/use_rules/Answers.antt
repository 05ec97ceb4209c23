use Rattle.std.proofs.Common.{◌≡◌, ◌<◌, ◌≤◌, length, slice_get, Some, refl, arith}
use Rattle.std.proofs.lemmas.Option.{slice_get_read}
use Rattle.dps_theory.specs.Theory.{Rule}
use Rattle.dps_static.specs.Ending.{Grows}
use Rattle.dps_static.specs.Asking.{IsUsedUp}
use Rattle.dps_static.proofs.AskingAllRules.{asking_none, asking_more, asking_idle, all_used_up}
use Rattle.dps_static.proofs.saturation.use_rules.Goals as goal
use Rattle.dps_static.proofs.saturation.use_rules.Goals.{then-branch, else-branch}

pub loop-place-init : goal.loop-place-init
loop-place-init c =
    let old = c.args.knowledge.now in
    asking_none c.args.theory.now old.recipes.items old.kept old.uses.items c.args.asked.now.items c.requires.asked

pub use_rule-requires : goal.use_rule-requires
use_rule-requires c =
    let place = c.loop-place.place in
    let asked = c.loop-place.asked.items in
    let all = c.loop-place.invariant.are_asked in
    let l : place < length c.args.theory.now.rules = rw c.rules-place-end.ensures.list at c.loop-place-test.true in
    let inside : place < length asked = omega (arith, l, all.same_length) in
    let there : slice_get asked place ≡ Some c.index_mut.result.now = slice_get_read _ _ _ _ refl inside c.index_mut.ensures.value in
    record { place = l; asked = λ rule at. all.each place c.index_mut.result.now there rule at }

pub loop-place-preserved : goal.loop-place-preserved
loop-place-preserved c =
    let theory = c.args.theory.now in
    let place = c.loop-place.place in
    let old = c.args.knowledge.now in
    let before = c.loop-place.knowledge in
    let now = c.use_rule.new.knowledge in
    let l : place < length theory.rules = rw c.rules-place-end.ensures.list at c.loop-place-test.true in
    elim c.if-branch.branch [
      | then-branch w ↦
          (let g : Grows theory 1 before.recipes.items before.kept now.recipes.items now.kept = rw w.if-branch.true at c.in_ok-use_rule.ensures.more in
          rw w.more-is
          (asking_more theory place c.loop-place.more old.recipes.items old.kept old.uses.items before.recipes.items before.kept before.uses.items c.loop-place.asked.items c.loop-place.invariant
          now.recipes.items now.kept now.uses.items c.use_rule.new.asked c.in_ok-use_rule.ensures.uses c.in_ok-use_rule.ensures.asked g))
      | else-branch w ↦
          (let used : (rule : Rule) → slice_get theory.rules place ≡ Some rule → IsUsedUp rule before.recipes.items before.kept now.recipes.items now.kept now.uses.items = rw w.if-branch.false
          at c.in_ok-use_rule.ensures.more in
          rw w.more-is
          (asking_idle theory place c.loop-place.more old.recipes.items old.kept old.uses.items before.recipes.items before.kept before.uses.items c.loop-place.asked.items c.loop-place.invariant
          now.recipes.items now.kept now.uses.items c.use_rule.new.asked c.in_ok-use_rule.ensures.uses c.in_ok-use_rule.ensures.asked l used))
    ]

pub returns : goal.returns
returns c =
    let old = c.args.knowledge.now in
    let now = c.loop-place.knowledge in
    let l : length c.args.theory.now.rules ≤ c.loop-place.place = rw c.rules-place-end.ensures.list at c.loop-place-test.false in
    record {
      accepted = c.rules-place-end.ensures.accepted;
      plain = c.rules-place-end.ensures.plain;
      asked = c.loop-place.invariant.are_asked;
      uses = c.loop-place.invariant.uses;
      more =
          all_used_up
          c.args.theory.now
          c.loop-place.place
          c.loop-place.more
          old.recipes.items
          old.kept
          old.uses.items
          now.recipes.items
          now.kept
          now.uses.items
          c.loop-place.asked.items
          l
          c.loop-place.invariant;
    }
