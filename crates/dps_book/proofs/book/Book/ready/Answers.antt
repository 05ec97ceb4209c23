use Rattle.std.proofs.Common.{◌≡◌, ℕ, ◌<◌, length, Option, Some, true, false, refl, ap, ◌∙◌, sym, subst, arith}
use Rattle.std.proofs.lemmas.Option.{slice_get-get_or}
use Rattle.dps_book.specs.contracts.book.Book.{the_view}
use Rattle.dps_book.specs.Ledger.{Ledger, IsReady}
use Rattle.dps_book.proofs.Ledgers.{not-ready, is-ready}
use Rattle.dps_book.proofs.book.Book.ready.Goals as goal

pub returns-in-Some : goal.returns-in-Some
returns-in-Some c =
    let holds = c.self.inside.holds.items in
    let w = c.args.worker in
    let l : w < length holds = omega (arith, c.self.inside.holds.ok) in
    let e = slice_get-get_or holds w c.index.result.now l ∙ ap (λ (x : Option ℕ). Some x) (sym c.index.ensures) ∙ ap (λ (x : Option ℕ). Some x) c.in-Some.is in (
      (λ h. let clash : false ≡ true = h in cc),
      (λ r. absurd (not-ready (the_view c.self.inside) holds w c.in-Some.field-0 c.self.invariant.0.holding e (subst (λ (x : Ledger). IsReady x w) (sym c.self.view_is) r))),
    )

pub returns-in-None : goal.returns-in-None
returns-in-None c =
    let holds = c.self.inside.holds.items in
    let w = c.args.worker in
    let l : w < length holds = omega (arith, c.self.inside.holds.ok) in
    let e = slice_get-get_or holds w c.index.result.now l ∙ ap (λ (x : Option ℕ). Some x) (sym c.index.ensures) ∙ ap (λ (x : Option ℕ). Some x) c.in-None.is in
    ((λ h. subst (λ (x : Ledger). IsReady x w) c.self.view_is (is-ready (the_view c.self.inside) holds w c.self.invariant.0.holding refl e)), (λ r. refl))
