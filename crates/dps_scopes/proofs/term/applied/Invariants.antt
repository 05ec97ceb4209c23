use Rattle.std.specs.Vec.Iter.{into_iter_items, into_iter_len}
use Rattle.dps_scopes.proofs.Applying.{IsApplying}
use Rattle.dps_scopes.proofs.term.applied.Given as goal

abbrev pub invariant-loop-argument : goal.invariant-loop-argument
invariant-loop-argument l = IsApplying (into_iter_items l.initial.argument-iterator) (into_iter_items l.argument-iterator) (into_iter_len l.argument-iterator) l.trees.items l.uses.items
