use Rattle.std.proofs.Common.{◌≡◌, [], ◌∷◌, ◌++◌, map, ap, ◌∙◌}
use Rattle.std.proofs.lemmas.List.{map-append}
use Rattle.dps_solver.specs.Code.{disequation_of}
use Rattle.dps_node.specs.Node.{Node}
use Rattle.dps_node.specs.Splits.{new_levels, exclusion}
use Rattle.dps_node.specs.Code.{node_of}
use Rattle.dps_node.proofs.splits.excluded_from.Goals as goal

pub returns : goal.returns
returns c = λ b h.
    let node : Node = node_of c.args.node in
    let levels : c.extend_from_slice.new.self.items ≡ node.levels ++ new_levels node b =
    c.in_ok-extend_from_slice.ensures.items ∙ ap (λ ls. node.levels ++ ls) (c.deref.ensures.value ∙ h.levels) in
    let ds : map disequation_of c.push.new.self.items ≡ node.disequations ++ exclusion node b ∷ [] =
    ap (map disequation_of) c.in_ok-push.ensures.items
    ∙ (map-append disequation_of c.args.node.disequations.items (c.in_ok-disequation.disequation ∷ []) ∙ ap (λ d. node.disequations ++ d ∷ []) (c.in_ok-disequation.ensures b h)) in
    λ i. record node { levels = levels i; disequations = ds i }
