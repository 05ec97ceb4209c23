use Rattle.std.proofs.Common.{◌∙◌, ap, sym}
use Rattle.dps_terms.specs.Bindings.{image}
use Rattle.dps_terms.specs.Seen.{seen}
use Rattle.dps_terms.specs.Views.{view_of}
use Rattle.dps_bindings.proofs.Roots.{root_stays, root_put, root_free}
use Rattle.dps_bindings.proofs.bindings.Bindings.at_root.Goals as goal

pub returns-in_default : goal.returns-in_default
returns-in_default c = root_stays (image c.args.self.now) (seen c.args.term) (λ n e. c.in_default.not-Var n (c.view.ensures ∙ e))

pub returns-in-Some : goal.returns-in-Some
returns-in-Some c =
    ap view_of c.whole.ensures ∙ root_put c.args.self.now (seen c.args.term) c.in-Some.put.now c.in-Var.variable (sym c.in-Var.ensures) (sym c.in-Some.ensures)

pub returns-in-None : goal.returns-in-None
returns-in-None c = root_free c.args.self.now (seen c.args.term) c.in-Var.variable (sym c.in-Var.ensures) (sym c.in-None.ensures)
