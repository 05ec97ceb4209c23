use Rattle.std.proofs.Common.{IsTrue, subst}
use Rattle.std.specs.Prelude.{◌↔◌}
use Rattle.dps_terms.specs.Tree.{Tree}
use Rattle.dps_know.specs.Know.{IsNormal}
use Rattle.dps_search.proofs.finishing.is_normal_under.Goals as goal

pub returns : goal.returns
returns c = subst (λ (t : Tree). IsTrue c.is_normal.result ↔ IsNormal c.args.recorded.now t) c.in_ok-tree.ensures c.is_normal.ensures
