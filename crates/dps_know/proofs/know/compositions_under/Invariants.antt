use Rattle.std.proofs.Common.{◌≡◌, ◌++◌, map, drop}
use Rattle.std.specs.Prelude.{filter_map}
use Rattle.dps_terms.specs.Replace.{substitute}
use Rattle.dps_terms.specs.Bindings.{image}
use Rattle.dps_know.specs.declared.know.Entry.{Entry}
use Rattle.dps_know.proofs.know.compositions_under.Given as goal

abbrev pub invariant-loop-entry : goal.invariant-loop-entry
invariant-loop-entry l =
    l.made.items ++ map (substitute (image l.by)) (filter_map (λ (e : Entry). e.composition) (drop l.entry-index l.entries))
    ≡ map (substitute (image l.by)) (filter_map (λ (e : Entry). e.composition) l.entries)
