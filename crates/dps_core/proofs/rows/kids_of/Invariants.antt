use Rattle.std.proofs.Common.{◌≡◌}
use Rattle.dps_core.specs.Book.{kids}
use Rattle.dps_core.proofs.rows.kids_of.Given as goal

abbrev pub invariant-loop-number : goal.invariant-loop-number
invariant-loop-number l = l.rows.items ≡ kids l.path 0 l.number
