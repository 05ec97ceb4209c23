use Rattle.std.proofs.Common.{◌∙◌, ◌∷◌, ◌++◌, [], ℕ, List, ap, sym, subst, refl, append_assoc, true≢false}
use Rattle.std.proofs.lemmas.List.{append-nil}
use Rattle.dps_tree.specs.Following.{AreMore}
use Rattle.dps_tree.specs.declared.group.Group.{Group}
use Rattle.dps_tree.proofs.Holding.{no_items_left}
use Rattle.dps_tree.proofs.Nexts.{LeadsBy, entries_more, entries_all}
use Rattle.dps_tree.proofs.following.add_groups.Goals as goal

pub loop-message-preserved : goal.loop-message-preserved
loop-message-preserved c =
    let done = c.loop-message.invariant.0 in
    let entry : ℕ × List (List ℕ) = (c.in-Some.message, c.in-Some.bags) in
    let group : Group = record { frame = c.in_ok-frame.frame; bags = c.in-Some.bags } in (
      done ++ entry ∷ [],
      c.loop-message.invariant.1 ∙ (ap (λ (es : List (ℕ × List (List ℕ))). done ++ es) c.in-Some.ensures.removal ∙ sym (append_assoc done (entry ∷ []) c.pop_first.new.self.entries)),
      subst (λ (gs : List Group). AreMore (LeadsBy c.args.frame.now (done ++ entry ∷ [])) c.args.found.now.items gs) (sym c.in_ok-push.ensures.items)
          (entries_more c.args.frame.now done c.in-Some.message c.in-Some.bags group c.args.found.now.items c.loop-message.found.items c.loop-message.invariant.2 c.in_ok-frame.ensures refl),
    )

pub returns : goal.returns
returns c =
    let done = c.loop-message.invariant.0 in
    let none = no_items_left c.loop-message.left.entries (λ h. true≢false (sym (c.in_default.ensures.variant.1 h))) in
    let all = c.loop-message.invariant.1 ∙ (ap (λ (es : List (ℕ × List (List ℕ))). done ++ es) none ∙ append-nil done) in
    entries_all c.args.frame.now c.args.next c.args.found.now.items c.loop-message.found.items c.len.ensures.ordered
    (subst (λ (es : List (ℕ × List (List ℕ))). AreMore (LeadsBy c.args.frame.now es) c.args.found.now.items c.loop-message.found.items) (sym all) c.loop-message.invariant.2)
