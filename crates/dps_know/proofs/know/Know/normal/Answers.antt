use Rattle.std.proofs.Common.{◌∙◌, ap, subst, IsTrue}
use Rattle.std.specs.Prelude.{◌↔◌, filter_map}
use Rattle.dps_know.specs.Know.{Knowledge, IsNormal}
use Rattle.dps_know.proofs.know.Know.normal.Goals as goal

pub returns : goal.returns
returns c =
    subst
    (λ es. IsTrue c.holds_none.result ↔ IsNormal (filter_map (λ e. e.composition) es) c.args.tree.now)
    (c.deref.ensures.value ∙ ap (λ (k : Knowledge). k.entries) c.self.view_is)
    c.holds_none.ensures
