use Rattle.std.proofs.Common.{◌≡◌, nat_eq, drop}
use Rattle.indexmap.specs.IndexSet.{insert_all}
use Rattle.dps_renewal.proofs.numbers.add_numbers.Given as goal

abbrev pub invariant-loop-number : goal.invariant-loop-number
invariant-loop-number l = insert_all nat_eq l.found.keys (drop l.number-index l.numbers) ≡ insert_all nat_eq l.fn.found.keys l.numbers
