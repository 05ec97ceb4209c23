use Rattle.std.proofs.Common.{◌≡◌, OnOk, ◌∙◌, sym, subst}
use Rattle.dps_terms.specs.Tree.{Tree}
use Rattle.dps_terms.specs.Bindings.{image}
use Rattle.dps_terms.specs.Kinds.{IsClosed}
use Rattle.dps_terms.proofs.Building.{closed_stays}
use Rattle.dps_solver.specs.Search.{composed}
use Rattle.dps_search.specs.Code.{branch_of}
use Rattle.dps_search.proofs.branch.compose_root.Goals as goal

pub returns-then-is_closed : goal.returns-then-is_closed
returns-then-is_closed c =
    let b = branch_of c.args.branch.now in
    let term = c.args.target.now.term in
    let closed = subst IsClosed c.whole.ensures (c.is_closed.ensures c.if-is_closed.true) in
    subst (λ (t : Tree). OnOk c.compose.result (branch_of c.compose.new.branch ≡ composed b c.args.target.now c.args.branch.now.targets.items t))
    (c.whole-then-is_closed.ensures ∙ sym (closed_stays (image c.args.branch.now.theta) term closed)) c.compose.ensures
