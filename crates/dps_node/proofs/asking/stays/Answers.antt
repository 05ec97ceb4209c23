use Rattle.std.proofs.Common.{sym, ◌∙◌}
use Rattle.dps_node.proofs.ReadPlain.{bound_told, unbound_told}
use Rattle.dps_node.proofs.asking.stays.Goals as goal

pub returns-in-Some : goal.returns-in-Some
returns-in-Some c =
    bound_told c.args.bindings.now c.args.variable c.in-Some.tree.now c.is_variable.result c.in-Some.ensures
    (λ k. sym c.whole.ensures ∙ c.is_variable.ensures.0 k, λ k. c.is_variable.ensures.1 (c.whole.ensures ∙ k))

pub returns-in-None : goal.returns-in-None
returns-in-None c = unbound_told c.args.bindings.now c.args.variable c.in-None.ensures
