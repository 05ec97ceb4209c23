use Rattle.dps_static.proofs.Numbers.{AreNamedFirst}
use Rattle.dps_static.proofs.naming.names_for.Given as goal

abbrev pub invariant-loop-one : goal.invariant-loop-one
invariant-loop-one l = AreNamedFirst l.rigid l.taken l.names.items l.from l.one-index
