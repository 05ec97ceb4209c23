use Rattle.std.specs.Prelude.{IfSome}
use Rattle.dps_know.specs.Know.{compositions, IsNormal}
use Rattle.dps_process.specs.Labels.{label_of}
use Rattle.dps_process.specs.declared.label.Label.{Label as LabelValue}
use Rattle.dps_solver.proofs.Each.{HoldsOfFirst}
use Rattle.dps_node.specs.Node.{label_tree}
use Rattle.dps_node.proofs.consistency.are_normal.Given as goal

abbrev pub invariant-loop-label : goal.invariant-loop-label
invariant-loop-label l = HoldsOfFirst (λ (x : LabelValue). IfSome (label_tree (label_of x)) (IsNormal (compositions l.know))) l.labels l.label-index
