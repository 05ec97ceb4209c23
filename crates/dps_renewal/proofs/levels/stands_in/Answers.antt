use Rattle.std.proofs.Common.{◌∙◌, ap}
use Rattle.dps_terms.specs.Bindings.{image}
use Rattle.dps_terms.specs.Variables.{occurrences}
use Rattle.dps_renewal.specs.Numbering.{is_among}
use Rattle.dps_renewal.proofs.EachOnce.{among_once}
use Rattle.dps_renewal.proofs.levels.stands_in.Goals as goal

pub returns : goal.returns
returns c =
    c.is_listed.ensures
    ∙ ap (is_among c.args.standing) (c.deref.ensures.value ∙ c.in_ok-variables.ensures)
    ∙ among_once c.args.standing (occurrences (image c.args.bindings.now c.args.variable))
