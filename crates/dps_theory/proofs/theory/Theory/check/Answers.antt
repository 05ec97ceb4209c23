use Rattle.std.proofs.Common.{map}
use Rattle.dps_theory.specs.Held.{shape_of}
use Rattle.dps_theory.proofs.TupleRules.{over_cases}
use Rattle.dps_theory.proofs.theory.Theory.check.Goals as goal

pub returns-in-Ok-joined-clause-over : goal.returns-in-Ok-joined-clause-over
returns-in-Ok-joined-clause-over c =
    rw c.in-Ok-joined.ensures
    (over_cases c.args.signature.now c.args.rules.items (map shape_of c.in-Ok.shapes.items) c.in-Ok.ensures c.requires
    (rw c.deref.ensures.value at (rw c.deref-2.ensures.value at c.in_ok-judge.ensures.accepted)))
