use Rattle.std.proofs.Common.{◌≡◌, ◌++◌, drop}
use Rattle.dps_elab.specs.Expansion.{private_numbers}
use Rattle.dps_elab.proofs.expanding.private_names.Given as goal

abbrev pub invariant-loop-number : goal.invariant-loop-number
invariant-loop-number l = l.found.items ++ private_numbers l.number (drop l.number l.signature.names) ≡ private_numbers 0 l.signature.names
