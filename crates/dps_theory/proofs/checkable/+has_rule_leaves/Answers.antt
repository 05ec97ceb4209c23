use Rattle.std.proofs.Common.{◌≡◌, ◌∙◌, arith, refl, sym, subst, true, false}
use Rattle.dps_terms.specs.Seen.{seen}
use Rattle.dps_terms.specs.Smaller.{argument_is_smaller}
use Rattle.dps_theory.specs.Checkable.{IsSmallRuleView}
use Rattle.dps_theory.proofs.CheckableRules.{small_all, small_one, root_shown}
use Rattle.dps_theory.proofs.checkable.+has_rule_leaves.Goals as goal

pub has_rule_leaves-requires : goal.has_rule_leaves-requires
has_rule_leaves-requires t c =
    let h = argument_is_smaller (seen c.args.term) c.loop-index.index (seen c.argument.result) c.argument.ensures in (omega (arith, h, c.decreases), tt)

pub returns-then-not-has_rule_leaves : goal.returns-then-not-has_rule_leaves
returns-then-not-has_rule_leaves t c = (
  λ e. cc,
  λ h. let e : false ≡ true = c.if-not-has_rule_leaves.ensures.1 (small_one (seen c.args.term) c.loop-index.index (seen c.argument.result) c.argument.ensures h) in cc,
)

pub returns : goal.returns
returns t c = (
  λ _. small_all (seen c.args.term) c.loop-index.index (subst IsSmallRuleView c.view.ensures (c.is_rule_view.ensures.0 c.if-not-is_rule_view.false)) c.loop-index.invariant (omega (arith, c.arity-index-end.ensures.number)),
  λ _. refl,
)

pub returns-then-not-is_rule_view : goal.returns-then-not-is_rule_view
returns-then-not-is_rule_view t c = (
  λ e. cc,
  λ h. let e : false ≡ true = sym c.if-not-is_rule_view.true ∙ c.is_rule_view.ensures.1 (subst IsSmallRuleView (sym c.view.ensures) (root_shown (seen c.args.term) h)) in cc,
)
