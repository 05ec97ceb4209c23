use Rattle.std.proofs.Common.{◌≡◌, ℕ, filter, map, drop, None}
use Rattle.dps_terms.specs.Bindings.{image}
use Rattle.dps_terms.specs.Variables.{occurrences}
use Rattle.dps_renewal.specs.Numbering.{is_among}
use Rattle.dps_renewal.proofs.Lowest.{folded}
use Rattle.dps_renewal.proofs.levels.least_level.Given as goal

abbrev pub invariant-loop-pair : goal.invariant-loop-pair
invariant-loop-pair l =
    folded l.level (map (λ (p : ℕ × ℕ). p.1) (filter (λ (p : ℕ × ℕ). is_among l.standing (occurrences (image l.bindings p.0))) (drop l.pair-index l.variables)))
    ≡ folded None (map (λ (p : ℕ × ℕ). p.1) (filter (λ (p : ℕ × ℕ). is_among l.standing (occurrences (image l.bindings p.0))) l.variables))
