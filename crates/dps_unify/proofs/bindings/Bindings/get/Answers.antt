use Rattle.std.proofs.Common.{ap, sym, ◌∙◌}
use Rattle.std.specs.Option.{option_map}
use Rattle.dps_terms.specs.Seen.{seen}
use Rattle.dps_unify.proofs.Bound.{bound-map}
use Rattle.dps_unify.proofs.bindings.Bindings.get.Goals as goal

pub returns-in-Some : goal.returns-in-Some
returns-in-Some c =
    rw (← c.self.view_is) (ap (option_map seen) c.in-Some.ensures.value ∙ sym (bound-map seen c.self.inside.terms.entries c.args.variable))

pub returns-in-None : goal.returns-in-None
returns-in-None c =
    rw (← c.self.view_is) (ap (option_map seen) c.in-None.ensures.value ∙ sym (bound-map seen c.self.inside.terms.entries c.args.variable))
