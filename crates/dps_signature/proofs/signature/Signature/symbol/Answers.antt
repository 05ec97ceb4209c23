use Rattle.std.proofs.Common.{refl, ◌∙◌}
use Rattle.dps_signature.specs.Signature.{Symbol}
use Rattle.dps_signature.proofs.Positions.{same_place}
use Rattle.dps_signature.proofs.signature.Signature.symbol.Goals as goal

pub returns-in-Some : goal.returns-in-Some
returns-in-Some c =
    rw (← c.self.view_is) (c.in-Some.ensures.index ∙ same_place (λ (s : Symbol). s.name) _ (λ e. refl) c.args.name.now c.self.inside.symbols.entries)

pub returns-in-None : goal.returns-in-None
returns-in-None c =
    rw (← c.self.view_is) (c.in-None.ensures.index ∙ same_place (λ (s : Symbol). s.name) _ (λ e. refl) c.args.name.now c.self.inside.symbols.entries)
