use Rattle.std.proofs.Common.{◌≡◌, drop}
use Rattle.dps_solver.specs.Search.{with_bound}
use Rattle.dps_search.specs.Code.{branch_of}
use Rattle.dps_search.proofs.branch.add_bound.Given as goal

abbrev pub invariant-loop-pair : goal.invariant-loop-pair
invariant-loop-pair l = with_bound (drop l.pair-index l.bound) (branch_of l.branch) ≡ with_bound l.bound (branch_of l.fn.branch)
