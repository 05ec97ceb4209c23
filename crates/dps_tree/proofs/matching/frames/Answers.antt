use Rattle.std.proofs.Common.{◌∙◌, ◌∷◌, ◌++◌, [], List, take, length, ap, sym, subst}
use Rattle.dps_terms.specs.Tree.{Tree}
use Rattle.dps_tree.specs.Table.{frame_of}
use Rattle.dps_tree.specs.Groups.{HoldsFrame}
use Rattle.dps_tree.specs.Matching.{AreJust}
use Rattle.dps_tree.specs.declared.group.Group.{Group}
use Rattle.dps_tree.proofs.Holding.{taken_more, taken_all, some_left}
use Rattle.dps_tree.proofs.Matchings.{frames_more, frames_left}
use Rattle.dps_tree.proofs.matching.frames.Goals as goal
use Rattle.dps_tree.proofs.matching.frames.Goals.{then-not-is_empty+in_ok-frame+in_ok-push, else-not-is_empty}

pub loop-group-preserved : goal.loop-group-preserved
loop-group-preserved c =
    let table = c.args.table.now in
    let first = take c.loop-group.group-index c.args.groups.now in
    let group = c.group-item.result in
    let old = c.loop-group.frames.items in
    taken_more (λ (gs : List Group). AreJust c.if-not-is_empty.frames.items (HoldsFrame table gs)) c.args.groups.now c.loop-group.group-index group c.group-item.is c.loop-group-test.true
    (elim c.if-not-is_empty.branch [
      | then-not-is_empty+in_ok-frame+in_ok-push w ↦
          let items = ap (λ v. v.items) w.frames-is ∙ (w.in_ok-push.ensures.items ∙ ap (λ (f : List Tree). old ++ f ∷ []) (w.in_ok-frame.ensures ∙ ap (frame_of table) w.deref.ensures.value)) in
          let some = some_left (length group.bags) c.is_empty.result c.is_empty.ensures.1 w.if-not-is_empty.true in
          subst (λ (fs : List (List Tree)). AreJust fs (HoldsFrame table (first ++ group ∷ []))) (sym items) (frames_more table first group old some c.loop-group.invariant)
      | else-not-is_empty w ↦
          subst (λ (fs : List (List Tree)). AreJust fs (HoldsFrame table (first ++ group ∷ []))) (sym (ap (λ v. v.items) w.frames-is))
          (frames_left table first group old (c.is_empty.ensures.0 w.if-not-is_empty.false) c.loop-group.invariant)
    ])

pub returns : goal.returns
returns c =
    taken_all (λ (gs : List Group). AreJust c.loop-group.frames.items (HoldsFrame c.args.table.now gs)) c.args.groups.now c.loop-group.group-index c.loop-group-test.false c.loop-group.invariant
