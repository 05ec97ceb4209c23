use Rattle.std.proofs.Common.{◌∙◌, length, ap, subst}
use Rattle.std.specs.Prelude.{Contains}
use Rattle.dps_static.specs.Ending.{Grows}
use Rattle.dps_static.specs.Uses.{AreUsesOf}
use Rattle.dps_static.specs.Asking.{UsesGrow, AreUsedUp}
use Rattle.dps_static.proofs.NewKnowledge.{known_first}
use Rattle.dps_static.proofs.AskingAllRules.{asked_nothing, no_uses, uses_end, saturated_end}
use Rattle.dps_static.proofs.saturation.saturated.Goals as goal

pub loop-asked-init : goal.loop-asked-init
loop-asked-init c = record {
  known = rw (c.in_ok-recipes.ensures, c.in_ok-kept.ensures) (known_first c.args.theory.now c.args.frame.now);
  asked = rw c.new.ensures.items
      (asked_nothing c.args.theory.now.rules c.in_ok-kept.kept c.in_ok-asked.asked.items (c.in_ok-asked.ensures.count ∙ ap length c.rules.ensures.list) c.in_ok-asked.ensures.unasked);
  each = λ one h. no_uses c.args.theory.now c.in_ok-kept.kept one (subst (λ us. Contains us one) c.new.ensures.items h);
}

pub use_rules-requires : goal.use_rules-requires
use_rules-requires c = record { asked = c.loop-asked.invariant.asked }

pub loop-asked-preserved : goal.loop-asked-preserved
loop-asked-preserved c =
    let theory = c.args.theory.now in
    let before = c.loop-asked.knowledge in
    let now = c.use_rules.new.knowledge in
    let g : Grows theory 1 before.recipes.items before.kept now.recipes.items now.kept = rw c.if-branch.true at c.in_ok-use_rules.ensures.more in
    let u : UsesGrow theory before.kept before.uses.items now.kept now.uses.items = c.in_ok-use_rules.ensures.uses in
    record {
      known = g.known c.args.frame.now c.loop-asked.invariant.known;
      asked = c.in_ok-use_rules.ensures.asked;
      each = u.each c.loop-asked.invariant.each;
    }

pub returns : goal.returns
returns c =
    let theory = c.args.theory.now in
    let frame = c.args.frame.now in
    let before = c.loop-asked.knowledge in
    let now = c.use_rules.new.knowledge in
    let up : AreUsedUp theory before.recipes.items before.kept now.recipes.items now.kept now.uses.items = rw c.if-branch.false at c.in_ok-use_rules.ensures.more in
    let are : AreUsesOf theory now.kept now.uses.items =
    uses_end theory frame before.recipes.items before.kept before.uses.items now.recipes.items now.kept now.uses.items c.in_ok-use_rules.ensures.uses c.loop-asked.invariant.each up in
    record {
      saturation =
          saturated_end
          theory
          frame
          before.recipes.items
          before.kept
          before.uses.items
          now.recipes.items
          now.kept
          now.uses.items
          c.in_ok-use_rules.ensures.accepted
          c.in_ok-use_rules.ensures.plain
          c.loop-asked.invariant.known
          up
          are;
      uses = are;
    }
