use Rattle.std.proofs.Common.{◌≡◌, ℕ, ◌+◌, ◌++◌, filter, drop}
use Rattle.dps_node.specs.Node.{numbered_from}
use Rattle.dps_renewal.specs.Numbering.{is_among}
use Rattle.dps_node.proofs.numbering.levels_of.Given as goal

abbrev pub invariant-loop-i : goal.invariant-loop-i
invariant-loop-i l =
    l.found.items ++ filter (λ (p : ℕ × ℕ). is_among p.0 l.standing.keys) (numbered_from (l.i + 1) (drop l.i l.levels))
    ≡ filter (λ (p : ℕ × ℕ). is_among p.0 l.standing.keys) (numbered_from 1 l.levels)
