use Rattle.std.proofs.Common.{◌≡◌, ◌+◌, ◌∙◌, arith}
use Rattle.dps_theory.specs.Projections.{projection_rule}
use Rattle.dps_theory.proofs.Projecting.{upto_next, upto_all}
use Rattle.dps_theory.proofs.projections.push_rules.Goals as goal

pub loop-place-preserved : goal.loop-place-preserved
loop-place-preserved c =
    upto_next (projection_rule c.args.signature.now c.args.tuple c.args.length) c.args.rules.now.items c.loop-place.rules.items c.push.new.self.items c.loop-place.place c.in_ok-rule.rule
    c.loop-place.auto.place c.loop-place.invariant c.in_ok-rule.ensures c.in_ok-push.ensures.items

pub returns : goal.returns
returns c =
    let e : c.loop-place.place ≡ c.args.length + 1 = omega (arith, c.loop-place.auto.place-end) in
    c.loop-place.invariant ∙ upto_all (projection_rule c.args.signature.now c.args.tuple c.args.length) c.args.rules.now.items c.loop-place.place c.args.length e
