use Rattle.std.proofs.Common.{◌≡◌, ap, unwrap_or, ◌∙◌}
use Rattle.dps_terms.specs.Tree.{var, leaf}
use Rattle.dps_terms.specs.Bindings.{image}
use Rattle.dps_terms.specs.Replace.{put_entries}
use Rattle.dps_solver.specs.Solutions.{valued}
use Rattle.dps_node.proofs.valuation.put_value.Goals as goal

pub returns-in_ok-value-in-Some : goal.returns-in_ok-value-in-Some
returns-in_ok-value-in-Some c = λ xs h.
    let x = c.args.variable in
    let e : c.in_ok-value-in-Some.value ≡ valued c.args.values.now (image c.args.by.now) x =
    c.in_ok-value-in-Some.ensures ∙ ap (λ o. put_entries c.args.values.now (unwrap_or o (leaf (var x)))) c.in-Some.ensures in
    c.put.ensures (valued c.args.values.now (image c.args.by.now)) xs e h
