use Rattle.std.proofs.Common.{◌≡◌, ◌+◌, sym, subst, ◌∙◌, true≢false}
use Rattle.dps_terms.specs.Seen.{seen}
use Rattle.dps_terms.specs.Walk.{subterms_from}
use Rattle.dps_signature.specs.Kinds.{IsOver}
use Rattle.dps_signature.proofs.OverNodes.{over_from, over_inside}
use Rattle.dps_signature.proofs.over.is_over.Goals as goal

pub returns-then-not-is_root_over : goal.returns-then-not-is_root_over
returns-then-not-is_root_over c = (
  λ e. absurd (true≢false (sym e)),
  λ o. sym c.if-not-is_root_over.true
      ∙ c.is_root_over.ensures.1
      (over_inside c.args.signature.now (seen c.whole-whole.result) (seen c.subterm.result) (subst (IsOver c.args.signature.now) (sym c.whole-whole.ensures) o) c.subterm.ensures.inside),
)

pub loop-node-preserved : goal.loop-node-preserved
loop-node-preserved c = λ over.
    let t = seen c.whole-whole.result in
    let i = c.loop-node.node in
    c.loop-node.invariant
    (over_from c.args.signature.now (subterms_from t i) (subterms_from t (i + 1)) (seen c.subterm.result) c.subterm.ensures.first c.subterm.ensures.below
    (c.is_root_over.ensures.0 c.if-not-is_root_over.false) over)
