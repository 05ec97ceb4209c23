use Rattle.std.proofs.Common.{◌∙◌, ap}
use Rattle.std.proofs.lemmas.Result.{on_ok_weaker}
use Rattle.dps_terms.specs.Tree.{Tree}
use Rattle.dps_terms.specs.Views.{view_of}
use Rattle.dps_solver.specs.Search.{with_one_bound}
use Rattle.dps_search.specs.Code.{branch_of}
use Rattle.dps_search.proofs.Stepping.{variable_is_tree}
use Rattle.dps_search.proofs.branch.add_one_bound.Goals as goal

pub returns-in-Var : goal.returns-in-Var
returns-in-Var c =
    let b = branch_of c.args.branch.now in
    on_ok_weaker c.give.result
    (λ e.
    e ∙ variable_is_tree c.in_ok-term.term c.in-Var.other (c.args.variable, c.args.level) b (c.in-Var.ensures ∙ ap view_of c.whole.ensures)
    ∙ ap (λ (t : Tree). with_one_bound t (c.args.variable, c.args.level) b) c.in_ok-term.ensures)
    c.give.ensures
