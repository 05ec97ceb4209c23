use Rattle.std.proofs.Common.{◌≡◌, take, false}
use Rattle.std.specs.Prelude.{All}
use Rattle.dps_node.specs.declared.asking.Found.{Found}
use Rattle.dps_node.specs.Asking.{is_plain_as}
use Rattle.dps_node.proofs.asking.first_where.Given as goal

abbrev pub invariant-loop-place : goal.invariant-loop-place
invariant-loop-place l = All (λ (f : Found). is_plain_as l.levels l.plain f ≡ false) (take l.place l.found)
