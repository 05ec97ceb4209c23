use Rattle.std.proofs.Common.{sym, ◌∙◌}
use Rattle.dps_terms.specs.Bindings.{image}
use Rattle.dps_terms.specs.Replace.{substitute}
use Rattle.dps_terms.specs.Seen.{seen}
use Rattle.dps_search.proofs.meeting.have_other_roots.Goals as goal

pub returns : goal.returns
returns c = λ _.
    c.may_be_equal.ensures c.if-may_be_equal.false (substitute (image c.args.theta.now) (seen c.args.value)) (substitute (image c.args.theta.now) (seen c.args.term))
    (sym (c.view.ensures ∙ c.at_root.ensures)) (sym (c.view-2.ensures ∙ c.at_root-2.ensures))
