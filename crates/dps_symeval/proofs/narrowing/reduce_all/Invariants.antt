use Rattle.std.proofs.Common.{take, map}
use Rattle.dps_symeval.specs.Agenda.{AddsOpen, reduced_last, at_places}
use Rattle.dps_symeval.proofs.narrowing.reduce_all.Given as goal

abbrev pub invariant-loop-place : goal.invariant-loop-place
invariant-loop-place l = AddsOpen (map (reduced_last l.arity l.choice) (at_places l.rules (take l.place-index l.places))) l.fn.found.items l.found.items
