use Rattle.dps_static.proofs.Carried.{PassFirst}
use Rattle.dps_static.proofs.passing.uses_test.Given as goal

abbrev pub invariant-loop-one : goal.invariant-loop-one
invariant-loop-one l = PassFirst l.theory l.counterparts l.uses l.one-index
