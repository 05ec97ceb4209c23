use Rattle.std.proofs.Common.{◌≡◌, ℕ, length, List, Some, None, refl, ap, ◌∙◌, sym, subst, arith}
use Rattle.std.specs.Prelude.{slice_get, slice_set}
use Rattle.std.specs.Vec.{vec_capacity}
use Rattle.std.proofs.lemmas.Option.{get_or_from_slice_get, slice_get_within}
use Rattle.dps_core.specs.declared.event.Mark.TheVariants.{DroppedHeld, Dropped}
use Rattle.dps_core.specs.declared.event.Posted.TheVariants as answer
use Rattle.dps_core.specs.declared.rows.Row.{Row}
use Rattle.dps_core.specs.Book.{row}
use Rattle.dps_core.proofs.Books.{book_of}
use Rattle.dps_book.specs.contracts.book.Book.{the_view}
use Rattle.dps_book.specs.Ledger.{Ledger, HasMark, IsPost}
use Rattle.dps_book.proofs.Counts.{owed-set}
use Rattle.dps_book.specs.InOrder.{IsLine}
use Rattle.dps_book.proofs.Lines.{line-mark}
use Rattle.dps_book.proofs.Ledgers.{ledger_of, late-right, posted-as}
use Rattle.dps_book.proofs.book.Book.post_late.Goals as goal

pub index_mut-requires-2 : goal.index_mut-requires-2
index_mut-requires-2 c =
    let h : HasMark (the_view c.self.inside) c.args.ticket (DroppedHeld c.args.worker) = subst (λ (x : Ledger). HasMark x c.args.ticket (DroppedHeld c.args.worker)) (sym c.self.view_is) c.requires in
    let mine : slice_get c.self.inside.holds.items c.args.worker ≡ Some (Some c.args.ticket) = c.self.invariant.0.holding.held c.args.ticket c.args.worker (row h.0 (DroppedHeld c.args.worker)) h.1
    refl in
    omega (arith, slice_get_within c.self.inside.holds.items c.args.worker (Some c.args.ticket) mine, c.self.inside.holds.ok)

pub push_reserved-requires : goal.push_reserved-requires
push_reserved-requires c =
    let h : HasMark (the_view c.self.inside) c.args.ticket (DroppedHeld c.args.worker) = subst (λ (x : Ledger). HasMark x c.args.ticket (DroppedHeld c.args.worker)) (sym c.self.view_is) c.requires in
    omega (
      arith,
      owed-set c.self.inside.rows.items c.args.ticket (row h.0 (DroppedHeld c.args.worker)) (row h.0 Dropped) h.1,
      c.self.invariant.0.owing,
      c.self.invariant.0.enough,
      c.self.inside.journal.ok,
    )

pub invariant_of-self : goal.invariant_of-self
invariant_of-self c =
    let rows = c.self.inside.rows.items in
    let holds = c.self.inside.holds.items in
    let w = c.args.worker in
    let t = c.args.ticket in
    let h : HasMark (the_view c.self.inside) t (DroppedHeld w) = subst (λ (x : Ledger). HasMark x t (DroppedHeld w)) (sym c.self.view_is) c.requires in
    let mine : slice_get holds w ≡ Some (Some t) = c.self.invariant.0.holding.held t w (row h.0 (DroppedHeld w)) h.1 refl in
    let same : c.index_mut.result.now ≡ row h.0 (DroppedHeld w) = c.index_mut.ensures.value ∙ get_or_from_slice_get rows t (row h.0 (DroppedHeld w)) c.index_mut.result.now h.1 in
    let ordered : IsLine (slice_set rows t (row c.index_mut.result.now.path Dropped)) c.self.inside.next.items =
    subst (λ (x : List ℕ). IsLine (slice_set rows t (row x Dropped)) c.self.inside.next.items) (sym (ap (λ (r : Row). r.path) same))
    (line-mark rows c.self.inside.next.items t h.0 (DroppedHeld w) Dropped h.1 (λ z. cc) c.self.invariant.1) in (
      late-right rows c.self.inside.best c.self.inside.halted c.self.inside.open_paths holds c.self.inside.claims.items c.self.inside.journal.items c.push_reserved.new.self.items
          (vec_capacity c.self.inside.journal) (vec_capacity c.push_reserved.new.self) w t h.0 c.index_mut.result.now.path c.args.found
          h.1 mine (ap (λ (r : Row). r.path) same) c.push_reserved.ensures.items c.push_reserved.ensures.capacity c.self.invariant.0,
      ordered,
    )

pub returns : goal.returns
returns c = λ path e.
    let rows = c.self.inside.rows.items in
    let w = c.args.worker in
    let t = c.args.ticket in
    let here : slice_get rows t ≡ Some (row path (DroppedHeld w)) = ap (λ (x : Ledger). slice_get x.book.rows t) c.self.view_is ∙ e in
    let same : c.index_mut.result.now ≡ row path (DroppedHeld w) = c.index_mut.ensures.value ∙ get_or_from_slice_get rows t (row path (DroppedHeld w)) c.index_mut.result.now here in
    let now : List Row = slice_set rows t (row c.index_mut.result.now.path Dropped) in
    let at : slice_set rows t (row path Dropped) ≡ now = ap (λ (r : Row). slice_set rows t (row r.path Dropped)) (sym same) in
    let after : Ledger = ledger_of (book_of now c.self.inside.best c.self.inside.halted) (length (slice_set c.self.inside.holds.items w None)) c.push_reserved.new.self.items in
    subst (λ (x : Ledger). IsPost x w t path c.args.found answer.Dropped after) c.self.view_is
    (posted-as rows now c.self.inside.best c.self.inside.best c.self.inside.halted c.self.inside.holds.items c.self.inside.journal.items c.push_reserved.new.self.items w t path c.args.found
    answer.Dropped (book_of (slice_set rows t (row path Dropped)) c.self.inside.best c.self.inside.halted)
    (ap (λ (x : List Row). book_of x c.self.inside.best c.self.inside.halted) at) (here, refl) c.push_reserved.ensures.items)
