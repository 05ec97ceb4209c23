use Rattle.std.proofs.Common.{◌≡◌, arith}
use Rattle.dps_terms.specs.Tree.{leaf, var}
use Rattle.dps_unify.proofs.Trees.{in_leaf}
use Rattle.dps_unify.proofs.tests.renamings.Goals as goal

pub rename-requires : goal.rename-requires
rename-requires g c = λ n k.
    let e = in_leaf (var 1) (leaf (var n)) (rw c.in_ok-term.ensures at k) in
    let m : n ≡ 1 = cc in omega arith
