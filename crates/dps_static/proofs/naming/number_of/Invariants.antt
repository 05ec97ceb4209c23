use Rattle.std.proofs.Common.{◌≡◌, drop}
use Rattle.dps_static.specs.Naming.{number_of}
use Rattle.dps_static.proofs.naming.number_of.Given as goal

abbrev pub invariant-loop-name : goal.invariant-loop-name
invariant-loop-name l = number_of (drop l.name-index l.names) l.rigid ≡ number_of l.names l.rigid
