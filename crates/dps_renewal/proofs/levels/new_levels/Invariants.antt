use Rattle.std.proofs.Common.{◌≡◌, ℕ, filter, map, take}
use Rattle.dps_terms.specs.Bindings.{image}
use Rattle.dps_terms.specs.Variables.{occurrences}
use Rattle.dps_renewal.specs.Numbering.{is_among, least}
use Rattle.dps_renewal.proofs.levels.new_levels.Given as goal

abbrev pub invariant-loop-variable : goal.invariant-loop-variable
invariant-loop-variable l =
    l.levels.items
    ≡ map
    (λ y. least (map (λ (p : ℕ × ℕ). p.1) (filter (λ (p : ℕ × ℕ). is_among y (occurrences (image l.bindings p.0))) l.variables)))
    (take l.variable-index l.fresh)
