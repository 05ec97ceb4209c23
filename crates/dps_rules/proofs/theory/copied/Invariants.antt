use Rattle.std.proofs.Common.{◌≡◌, take, map}
use Rattle.dps_rules.proofs.theory.copied.Given as goal

abbrev pub invariant-loop-one : goal.invariant-loop-one
invariant-loop-one l = l.rules.items ≡ map (λ r. r.rule) (take l.one-index l.written)
