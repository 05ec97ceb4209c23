use Rattle.std.proofs.Common.{refl, sym}
use Rattle.dps_witness.proofs.Models.{false_is_no_answer, no_heading, heading_names, heading_agrees}
use Rattle.dps_witness.proofs.reading.names_other.Goals as goal

pub returns-in_default : goal.returns-in_default
returns-in_default c = (λ t. absurd (false_is_no_answer t), λ other. absurd (no_heading c.args.option c.args.text.now c.in_default.ensures.none other))

pub returns-in-Some : goal.returns-in-Some
returns-in-Some c = (
  λ t. absurd (false_is_no_answer t),
  λ other.
      absurd (
      heading_agrees c.args.option c.args.text.now c.in-Ok.heading.rest.now c.in-Ok.heading.model c.in-Some.field-0 c.in-Ok.ensures.found (sym c.in-Some.ensures) other),
)

pub returns-in-None : goal.returns-in-None
returns-in-None c =
    (λ t. heading_names c.args.option c.args.text.now c.in-Ok.heading.rest.now c.in-Ok.heading.model c.in-Ok.ensures.found (sym c.in-None.ensures), λ other. refl)
