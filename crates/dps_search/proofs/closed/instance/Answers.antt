use Rattle.std.proofs.Common.{◌≡◌, IfOk, sym, subst}
use Rattle.dps_terms.specs.Tree.{Tree}
use Rattle.dps_terms.specs.Bindings.{image}
use Rattle.dps_terms.specs.Seen.{seen}
use Rattle.dps_terms.proofs.Building.{closed_stays}
use Rattle.dps_search.proofs.closed.instance.Goals as goal

pub returns-then-is_closed : goal.returns-then-is_closed
returns-then-is_closed c =
    subst (λ (u : Tree). IfOk c.copy.result (λ t. t ≡ u)) (sym (closed_stays (image c.args.theta.now) (seen c.args.term) (c.is_closed.ensures c.if-is_closed.true)))
    c.copy.ensures.same
