use Rattle.std.proofs.Common.{◌∙◌}
use Rattle.dps_terms.specs.Seen.{seen}
use Rattle.dps_search.proofs.Nodes.{no_root_number}
use Rattle.dps_search.proofs.closed.is_variable.Goals as goal

pub returns-in_default : goal.returns-in_default
returns-in_default c = λ e. no_root_number (seen c.args.term) (λ n f. c.in_default.not-Var n (c.view.ensures ∙ f))
