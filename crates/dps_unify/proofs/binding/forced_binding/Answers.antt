use Rattle.std.proofs.Common.{◌∙◌}
use Rattle.dps_terms.specs.Seen.{seen}
use Rattle.dps_unify.proofs.Trees.{never_equal}
use Rattle.dps_unify.proofs.binding.forced_binding.Goals as goal

pub returns-in_default : goal.returns-in_default
returns-in_default c =
    never_equal (seen c.args.parts.left) (seen c.args.parts.right) c.requires (λ m e. c.in_default.not-Var-0 m (c.view.ensures ∙ e)) (λ m e. c.in_default.not-Var-1 m (c.view-2.ensures ∙ e))
