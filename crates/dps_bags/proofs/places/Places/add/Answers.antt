use Rattle.std.proofs.Common.{arith}
use Rattle.std.proofs.lemmas.Grind.{common_steps}
use Rattle.dps_bags.proofs.Holding.{on_err_of}
use Rattle.dps_bags.proofs.places.Places.add.Goals as goal

pub returns-in_err-push-clause-unchanged : goal.returns-in_err-push-clause-unchanged
returns-in_err-push-clause-unchanged c = on_err_of c.from_residual-in_err-push.result (λ d. grind (arith, common_steps))

pub returns-clause-noted : goal.returns-clause-noted
returns-clause-noted c = λ d. grind (arith, common_steps)
