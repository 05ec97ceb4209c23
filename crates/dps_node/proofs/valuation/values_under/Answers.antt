use Rattle.std.proofs.Common.{◌≡◌, get_or, ◌∙◌}
use Rattle.dps_terms.specs.Bindings.{image}
use Rattle.dps_terms.specs.Replace.{substitute}
use Rattle.dps_solver.specs.Solutions.{valued}
use Rattle.dps_node.proofs.Valuing.{next_value}
use Rattle.dps_node.proofs.valuation.values_under.Goals as goal

pub loop-value-preserved : goal.loop-value-preserved
loop-value-preserved c =
    let z = image c.args.by.now in
    let vs = c.args.values.now in
    let i = c.loop-value.value-index in
    let d = c.value-item.result in
    let one : c.in_ok-one.one ≡ substitute (valued c.loop-value.made.items z) (get_or vs i d) =
    c.in_ok-one.ensures ∙ ((λ k. substitute (valued (c.deref.ensures.value k) z) (c.value-item.is k))) in
    next_value z vs c.loop-value.made.items c.push.new.self.items i d c.in_ok-one.one c.requires c.loop-value-test.true c.loop-value.invariant one c.in_ok-push.ensures.items
