use Rattle.std.proofs.Common.{◌≡◌, ℕ, List, Option, Some, true, false, ap, ◌∙◌, sym, subst}
use Rattle.std.specs.Prelude.{slice_get}
use Rattle.std.proofs.lemmas.Option.{none-some}
use Rattle.dps_core.specs.declared.rows.Row.{Row}
use Rattle.dps_core.specs.Book.{row}
use Rattle.dps_book.specs.contracts.book.Book.{the_view}
use Rattle.dps_book.specs.Ledger.{Ledger, Holds}
use Rattle.dps_book.proofs.Ledgers.{mark-held, holds-place, same-ticket}
use Rattle.dps_book.proofs.book.Book.owes.Goals as goal

pub returns-in-Some : goal.returns-in-Some
returns-in-Some c =
    let rows = c.self.inside.rows.items in
    let holds = c.self.inside.holds.items in
    let w = c.args.worker in
    let p = c.args.path.now in
    let t = c.in-Some.ticket in
    let k = c.self.invariant.0.holding in
    let mine : slice_get holds w ≡ Some (Some t) = ap (λ (x : List (Option ℕ)). slice_get x w) (sym c.deref.ensures.value) ∙ (c.held_by.ensures t).0 c.in-Some.is in (
      (λ h.
          let m = c.has_path.ensures.0 h in
          let e : slice_get rows t ≡ Some (row p m.0) = ap (λ (x : List Row). slice_get x t) (sym c.deref-in-Some.ensures.value) ∙ m.1 in
          subst (λ (x : Ledger). (ticket : ℕ) × Holds x w ticket p) c.self.view_is (t, (m.0, e, mark-held rows holds w t p m.0 k mine e))),
      (λ h.
          let g : (ticket : ℕ) × Holds (the_view c.self.inside) w ticket p = subst (λ (x : Ledger). (ticket : ℕ) × Holds x w ticket p) (sym c.self.view_is) h in
          let here : slice_get holds w ≡ Some (Some g.0) = holds-place (the_view c.self.inside) holds w g.0 p k g.1 in
          let same : g.0 ≡ t = same-ticket holds w g.0 t here mine in
          let e : slice_get rows t ≡ Some (row p g.1.0) = ap (slice_get rows) (sym same) ∙ g.1.1 in
          c.has_path.ensures.1 (g.1.0, ap (λ (x : List Row). slice_get x t) c.deref-in-Some.ensures.value ∙ e)),
    )

pub returns-in-None : goal.returns-in-None
returns-in-None c =
    let holds = c.self.inside.holds.items in
    let w = c.args.worker in
    let p = c.args.path.now in (
      (λ h. let clash : false ≡ true = h in cc),
      (λ h.
          let g : (ticket : ℕ) × Holds (the_view c.self.inside) w ticket p = subst (λ (x : Ledger). (ticket : ℕ) × Holds x w ticket p) (sym c.self.view_is) h in
          let here : slice_get holds w ≡ Some (Some g.0) = holds-place (the_view c.self.inside) holds w g.0 p c.self.invariant.0.holding g.1 in
          absurd (none-some g.0 (sym c.in-None.is ∙ (c.held_by.ensures g.0).1 (ap (λ (x : List (Option ℕ)). slice_get x w) c.deref.ensures.value ∙ here)))),
    )
