use Rattle.std.proofs.Common.{◌≡◌, ℕ, List, [], ◌∷◌, ◌++◌, Option, None, ap, ◌∙◌, arith}
use Rattle.std.specs.Vec.{vec_capacity}
use Rattle.dps_core.specs.declared.event.Mark.TheVariants.{Open}
use Rattle.dps_core.specs.declared.rows.Row.{Row}
use Rattle.dps_core.specs.Book.{row}
use Rattle.dps_book.proofs.Lines.{line-new}
use Rattle.dps_book.proofs.Starting.{right-new}
use Rattle.dps_book.proofs.book.Book.new.Goals as goal

pub invariant_of-result : goal.invariant_of-result
invariant_of-result c =
    let rows : c.push.new.self.items ≡ row [] Open ∷ [] = c.in_ok-push.ensures.items ∙ ap (λ (x : List Row). x ++ row c.root.result Open ∷ []) c.new-rows.ensures.items
    ∙ ap (λ (p : List ℕ). row p Open ∷ []) c.root.ensures in
    let next : c.push-2.new.self.items ≡ None ∷ [] = c.in_ok-push-2.ensures.items ∙ ap (λ (x : List (Option ℕ)). x ++ None ∷ []) c.new-next.ensures.items in (
      right-new c.push.new.self.items c.loop.counter c.loop.holds.items c.loop.claims.items c.in_ok-journal.journal.items (vec_capacity c.in_ok-journal.journal)
          rows c.loop.invariant.holds c.loop.invariant.claims c.in_ok-journal.ensures.items (omega (arith, c.in_ok-journal.ensures.capacity)),
      line-new c.push.new.self.items c.push-2.new.self.items rows next,
    )
