-- A program has at most one flaw: the contract of a function of the crate.
use Rattle.std.specs.Prelude.{◌≡◌}
use Rattle.dps_lex.specs.declared.vocabulary.Place.{Place}
use Rattle.dps_names.specs.Program.{Program}
use Rattle.dps_rules.specs.Rules.{Flaw, IsFlawed}

-- No program has a flaw at two places, or two flaws.
abbrev pub NoProgramHasTwoFlaws : Type 0
NoProgramHasTwoFlaws = (program : Program) (place other : Place) (flaw second : Flaw) → IsFlawed program place flaw → IsFlawed program other second → (place ≡ other) × (flaw ≡ second)
