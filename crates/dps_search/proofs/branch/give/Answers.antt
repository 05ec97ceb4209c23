use Rattle.std.proofs.Common.{ℕ, ap}
use Rattle.dps_terms.specs.Tree.{Tree}
use Rattle.dps_search.specs.Code.{branch_of}
use Rattle.dps_bindings.proofs.InTurn.{given_more}
use Rattle.dps_search.proofs.branch.give.Goals as goal

pub returns : goal.returns
returns c =
    ap (λ (z : ℕ → Tree). record (branch_of c.args.branch.now) { trees = z })
    (given_more c.args.branch.now.trees.items c.push.new.self.items (record { variable = c.args.variable; piece = c.args.piece }) c.in_ok-push.ensures.items)
