use Rattle.std.proofs.Common.{◌∙◌, ap, length}
use Rattle.std.specs.Prelude.{reverse}
use Rattle.dps_terms.proofs.Stacked.{alone}
use Rattle.dps_terms.proofs.stack.TermStack.into_term.Goals as goal

pub invariant_of-result : goal.invariant_of-result
invariant_of-result c = (alone c.self.inside.cells.items c.reverse.new.self (ap length c.self.view_is ∙ c.requires) c.self.invariant
    (c.reverse.ensures.after ∙ ap reverse c.as_mut_slice.ensures.value)).0
