use Rattle.std.proofs.Common.{◌≡◌, ℕ, take}
use Rattle.std.specs.Prelude.{is_some}
use Rattle.dps_unify.specs.Order.{level_of}
use Rattle.dps_search.proofs.Finished.{tested}
use Rattle.dps_search.proofs.finishing.scene_bindings.Given as goal

abbrev pub invariant-loop-index : goal.invariant-loop-index
invariant-loop-index l = l.bindings ≡ tested (λ (x : ℕ). is_some (level_of l.levels x)) (take l.index l.trees)
