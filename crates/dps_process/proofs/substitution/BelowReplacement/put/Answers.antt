use Rattle.std.proofs.Common.{◌≡◌, sym, ◌∙◌, subst}
use Rattle.dps_terms.specs.Tree.{var, leaf}
use Rattle.dps_terms.specs.Bindings.{image}
use Rattle.dps_terms.specs.Leaves.{leaf_seen}
use Rattle.dps_terms.specs.Replace.{variables_to}
use Rattle.dps_terms.specs.declared.TermLeaf.{TermLeaf}
use Rattle.dps_process.specs.Binders.{but_for_all}
use Rattle.dps_process.specs.Scopes.{numbers}
use Rattle.dps_process.proofs.VariablesBelowBinders.{bound_stays, unbound_changes, others_put}
use Rattle.dps_process.proofs.substitution.BelowReplacement.put.Goals as goal

pub returns-then-bind : goal.returns-then-bind
returns-then-bind c =
    let xs = numbers c.args.self.now.binders.now in
    let f = variables_to (image c.args.self.now.by.now) in
    let stays = bound_stays xs f c.in-Var.number (sym c.bind.ensures ∙ c.if-bind.true) in
    rw (subst (λ (l : TermLeaf). but_for_all xs f (leaf_seen l) ≡ leaf (var c.in-Var.number)) (sym c.in-Var.is) stays) c.push_leaf.ensures.ok

pub returns-else-bind : goal.returns-else-bind
returns-else-bind c =
    let xs = numbers c.args.self.now.binders.now in
    let f = variables_to (image c.args.self.now.by.now) in
    let changes = unbound_changes xs f c.in-Var.number (sym c.bind.ensures ∙ c.if-bind.false) in
    rw (subst (λ (l : TermLeaf). but_for_all xs f (leaf_seen l) ≡ f (var c.in-Var.number)) (sym c.in-Var.is) changes) c.put.ensures

pub returns-in_default : goal.returns-in_default
returns-in_default c =
    let xs = numbers c.args.self.now.binders.now in
    let f = variables_to (image c.args.self.now.by.now) in
    rw (others_put xs f c.args.leaf c.in_default.not-Var) c.put-in_default.ensures
