use Rattle.std.specs.Vec.Iter.{into_iter_items, into_iter_len}
use Rattle.dps_syntax.proofs.Declared.{IsDeclaring}
use Rattle.dps_syntax.proofs.declaration.declarations_of.Given as goal

abbrev pub invariant-loop-part : goal.invariant-loop-part
invariant-loop-part l = IsDeclaring (into_iter_items l.initial.part-iterator) (into_iter_items l.part-iterator) (into_iter_len l.part-iterator) l.declarations.items
