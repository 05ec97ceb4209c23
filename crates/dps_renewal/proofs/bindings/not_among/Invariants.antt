use Rattle.std.proofs.Common.{◌≡◌, filter, not, take}
use Rattle.dps_terms.specs.Variables.{each_once}
use Rattle.dps_renewal.specs.Numbering.{is_among}
use Rattle.dps_renewal.proofs.bindings.not_among.Given as goal

abbrev pub invariant-loop-number : goal.invariant-loop-number
invariant-loop-number l = l.others.keys ≡ each_once (filter (λ y. not (is_among y l.known.keys)) (take l.number-index l.numbers))
