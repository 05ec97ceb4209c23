use Rattle.std.proofs.Common.{◌≡◌, take}
use Rattle.dps_symeval.proofs.narrowing.with_result.Given as goal

abbrev pub invariant-loop-result : goal.invariant-loop-result
invariant-loop-result l = l.all.items ≡ take l.result-index l.results
