use Rattle.std.proofs.Common.{◌≡◌, ◌+◌, ◌∙◌, max, sym}
use Rattle.std.proofs.lemmas.Result.{IfOk-weaker}
use Rattle.dps_terms.specs.Seen.{seen}
use Rattle.dps_solver.specs.Search.{least_above}
use Rattle.dps_search.specs.Numbers.{root_numbers}
use Rattle.dps_search.proofs.Above.{above_variable, above_other}
use Rattle.dps_search.proofs.numbers.above_root.Goals as goal

pub returns-in-Var : goal.returns-in-Var
returns-in-Var c =
    IfOk-weaker c.above_number.result (λ n. n ≡ max c.args.next (c.in-Var.number + 1)) (λ n. n ≡ max c.args.next (least_above (root_numbers (seen c.args.term))))
    (λ n e. above_variable (seen c.args.term) c.in-Var.number c.args.next n (sym c.in-Var.ensures) e) c.above_number.ensures

pub returns-in_default : goal.returns-in_default
returns-in_default c = above_other (seen c.args.term) c.args.next (λ n e. c.in_default.not-Var n (c.view.ensures ∙ e))
