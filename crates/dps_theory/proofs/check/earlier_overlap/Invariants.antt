use Rattle.std.proofs.Common.{◌≡◌, drop, take, Some}
use Rattle.std.specs.Prelude.{slice_get}
use Rattle.dps_theory.specs.Theory.{Rule}
use Rattle.dps_theory.proofs.Walking.{Walk}
use Rattle.dps_theory.proofs.check.earlier_overlap.Given as goal

abbrev pub invariant-loop-before : goal.invariant-loop-before
invariant-loop-before l =
    (q : Rule) → slice_get l.rules l.place ≡ Some q → Walk (take l.place l.rules) q (drop l.before-index l.earlier)
