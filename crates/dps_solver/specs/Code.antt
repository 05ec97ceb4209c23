-- What the code's structures stand for.
use Rattle.dps_solver.specs.declared.scene.Disequation.{Disequation as CodeDisequation}
use Rattle.dps_solver.specs.Scene.{Disequation}

abbrev pub disequation_of : CodeDisequation → Disequation
disequation_of d = record { free = d.free.items; pairs = d.pairs.items }
