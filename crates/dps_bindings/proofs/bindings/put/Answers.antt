use Rattle.std.proofs.Common.{◌≡◌, ℕ, List, subst}
use Rattle.std.specs.Prelude.{IfOk}
use Rattle.dps_terms.specs.Tree.{Tree}
use Rattle.dps_terms.specs.Bindings.{image}
use Rattle.dps_terms.specs.Replace.{substitute}
use Rattle.dps_bindings.proofs.bindings.put.Goals as goal

pub returns : goal.returns
returns c =
    subst (λ (u : List (ℕ × Tree)). IfOk c.then.result (λ s. image s ≡ (λ x. substitute (image u) (image c.args.before.now x)))) c.in_ok-by.ensures c.then.ensures
