use Rattle.std.proofs.Common.{◌≡◌, map, take}
use Rattle.std.specs.List.{flat_map}
use Rattle.dps_terms.specs.Bindings.{image}
use Rattle.dps_terms.specs.Variables.{occurrences, each_once}
use Rattle.dps_renewal.proofs.bindings.variables_of_bindings.Given as goal

abbrev pub invariant-loop-variable : goal.invariant-loop-variable
invariant-loop-variable l = l.found.keys ≡ each_once (flat_map occurrences (map (image l.bindings) (take l.variable-index l.own)))
