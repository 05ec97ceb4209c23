use Rattle.dps_theory.proofs.Leaves.{leaf_of_value}
use Rattle.dps_theory.proofs.laws.values_hold_no_new_leaf.Goals as goal

pub returns : goal.returns
returns c = λ theory t v accepted e x s. leaf_of_value theory accepted x e s
