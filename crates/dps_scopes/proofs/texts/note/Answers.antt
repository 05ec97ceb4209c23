use Rattle.std.proofs.Common.{sym, ◌∙◌}
use Rattle.dps_scopes.proofs.Noting.{noted, nothing}
use Rattle.dps_scopes.proofs.texts.note.Goals as goal

pub returns-clause-ok : goal.returns-clause-ok
returns-clause-ok c =
    noted c.args.places.now c.insert.new.self c.args.text c.args.place (nothing _ (rw (← c.as_str.ensures.value) (sym c.contains_key.ensures ∙ c.if-contains_key.false))) c.in_ok-insert.ensures.updates
