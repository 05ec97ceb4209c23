use Rattle.std.proofs.Common.{List, ap, drop, ◌∙◌}
use Rattle.dps_terms.specs.Tree.{entry, leaf}
use Rattle.dps_terms.specs.Bindings.{image}
use Rattle.dps_solver.specs.Search.{then_put}
use Rattle.dps_solver.specs.declared.scene.Target.{Target}
use Rattle.dps_bindings.specs.declared.piece.Given.{Given}
use Rattle.dps_bindings.specs.Pieces.{pairs_of}
use Rattle.dps_bindings.specs.Putting.{in_turn}
use Rattle.dps_search.proofs.entering.enter_with.Goals as goal

pub returns : goal.returns
returns c =
    let trees = c.in_ok-trees.ensures ∙ ap (λ (gs : List Given). then_put c.args.name (leaf (entry c.args.entry)) (in_turn (pairs_of gs))) c.deref.ensures.value in
    let targets = c.in_ok-targets.ensures ∙ c.behind_first.ensures ∙ ap (λ (zs : List Target). drop 1 zs) c.deref-2.ensures.value in
    let levels = c.in_ok-levels.ensures.items ∙ c.deref-3.ensures.value in
    λ i. record { theta = image c.args.theta; trees = trees i; targets = targets i; levels = levels i; next = c.args.branch.now.next }
