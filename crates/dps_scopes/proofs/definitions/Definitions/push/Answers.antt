use Rattle.std.proofs.Common.{refl}
use Rattle.dps_signature.proofs.Positions.{put_last}
use Rattle.dps_scopes.specs.Definition.{Definition}
use Rattle.dps_scopes.proofs.definitions.Definitions.push.Goals as goal

pub returns-clause-ok : goal.returns-clause-ok
returns-clause-ok c =
    let bytes = c.in_ok-name.ensures.ok in
    let fresh = rw (← c.self.view_is, ← bytes) at c.requires in
    rw (← c.self.view_is, c.in_ok-insert.ensures.entries, put_last (λ (d : Definition). d.name) _ (λ e. refl) c.in_ok-name.name _ c.self.inside.processes.entries fresh, bytes) refl
