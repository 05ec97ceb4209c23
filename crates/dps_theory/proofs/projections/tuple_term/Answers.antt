use Rattle.std.proofs.Common.{[], length, arith, ap, ◌∙◌, ◌-◌}
use Rattle.std.specs.List.{range_with_len}
use Rattle.std.proofs.lemmas.List.{length-map}
use Rattle.dps_terms.specs.Tree.{leaf, var}
use Rattle.dps_theory.proofs.Projecting.{upto_next, length_range}
use Rattle.dps_theory.proofs.projections.tuple_term.Goals as goal

pub loop-number-preserved : goal.loop-number-preserved
loop-number-preserved c =
    upto_next (λ i. leaf (var i)) [] c.loop-number.variables.items c.push.new.self.items c.loop-number.number c.in_ok-var.field-0
    c.loop-number.auto.number c.loop-number.invariant c.in_ok-var.ensures c.in_ok-push.ensures.items

pub app-requires : goal.app-requires
app-requires c =
    let e = ap length c.loop-number.invariant ∙ length-map (range_with_len 1 (c.loop-number.number - 1)) (λ i. leaf (var i)) ∙ length_range 1 (c.loop-number.number - 1) in
    omega (arith, e, c.loop-number.auto.number-end)
