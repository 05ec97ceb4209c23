use Rattle.std.proofs.Common.{ap, ◌∙◌, sym, subst, arith}
use Rattle.dps_book.specs.Ledger.{Ledger, IsOver, best_ticket}
use Rattle.dps_book.proofs.Counts.{none-open, all-closed}
use Rattle.dps_book.proofs.book.Book.finished.Goals as goal

pub returns-then-self-gt0 : goal.returns-then-self-gt0
returns-then-self-gt0 c = λ over.
    let here = subst (λ (l : Ledger). IsOver l.book) (sym c.self.view_is) over in
    let z = all-closed c.self.inside.rows.items here.closed in
    omega (arith, z, c.self.invariant.0.counted, c.if-self-gt0.true)

pub returns : goal.returns
returns c = (
  subst (λ (l : Ledger). IsOver l.book) c.self.view_is
      (record { goes = c.if-self.false; closed = λ t r e. none-open c.self.inside.rows.items t r (omega (arith, c.self.invariant.0.counted, c.if-self-gt0.false)) e }),
  c.ticket_of.ensures ∙ ap (λ (l : Ledger). best_ticket l.book.best) c.self.view_is,
)
