use Rattle.std.proofs.Common.{◌≡◌, ◌∙◌, true, false, sym}
use Rattle.dps_search.proofs.Rooted.{apart}
use Rattle.dps_search.proofs.meeting.may_be_equal.Goals as goal

pub returns-in_default : goal.returns-in_default
returns-in_default c = λ e.
    apart c.args.first c.args.second (λ n f. c.in_default.not-Var-0 n f) (λ n f. c.in_default.not-Var-1 n f)
    (λ f. let d : false ≡ true = sym e ∙ c.are_same.ensures.1 f in cc)
