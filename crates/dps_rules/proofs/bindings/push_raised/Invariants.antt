use Rattle.std.proofs.Common.{◌≡◌, ◌+◌, ◌++◌, take, map}
use Rattle.dps_rules.proofs.bindings.push_raised.Given as goal

abbrev pub invariant-loop-variable : goal.invariant-loop-variable
invariant-loop-variable l = l.numbers.items ≡ l.initial.numbers.items ++ map (λ n. n + l.by) (take l.variable-index l.variables)
