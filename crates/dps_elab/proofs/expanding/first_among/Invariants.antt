use Rattle.std.proofs.Common.{◌≡◌, drop}
use Rattle.std.specs.Ordering.{nat_cmp}
use Rattle.std.specs.BTreeSet as tree
use Rattle.dps_elab.specs.Meaning.{first_such}
use Rattle.dps_elab.proofs.expanding.first_among.Given as goal

abbrev pub invariant-loop-found : goal.invariant-loop-found
invariant-loop-found l = first_such (λ u. tree.contains nat_cmp l.names u.name) (drop l.found-index l.privates) ≡ first_such (λ u. tree.contains nat_cmp l.names u.name) l.privates
