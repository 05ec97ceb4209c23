use Rattle.std.proofs.Common.{◌≡◌, ℕ, ◌<◌, length, get_or, List, Option, Some, None, refl, ap, ◌∙◌, sym, subst, arith}
use Rattle.std.specs.Prelude.{slice_get, slice_set}
use Rattle.std.specs.Vec.{vec_capacity}
use Rattle.std.proofs.lemmas.Option.{get_or_from_slice_get, slice_get-get_or}
use Rattle.dps_core.specs.declared.event.Mark.TheVariants.{Open, Held}
use Rattle.dps_core.specs.declared.event.Claim.TheVariants as claim
use Rattle.dps_core.specs.declared.rows.Row.{Row}
use Rattle.dps_core.specs.Book.{row}
use Rattle.dps_core.proofs.Books.{book_of}
use Rattle.dps_book.specs.contracts.book.Book.{the_view}
use Rattle.dps_book.specs.Ledger.{Ledger, IsReady, IsClaim}
use Rattle.dps_book.proofs.Counts.{claims_by-le}
use Rattle.dps_book.specs.InOrder.{IsLine}
use Rattle.dps_book.proofs.Lines.{line-mark}
use Rattle.dps_book.proofs.Ledgers.{ledger_of, place-free, claimed-right, claimed-live}
use Rattle.dps_book.proofs.book.Book.claim.Goals as goal

pub overflow_add-index_mut : goal.overflow_add-index_mut
overflow_add-index_mut c =
    let k = c.self.invariant.0 in
    let claims = c.self.inside.claims.items in
    let w = c.args.worker in
    let n = c.index_mut-3.result.now in
    let ready : IsReady (the_view c.self.inside) w = subst (λ (x : Ledger). IsReady x w) (sym c.self.view_is) c.requires in
    let l : w < length claims = omega (arith, ready.0, k.same_workers) in
    let mine : slice_get claims w ≡ Some n = slice_get-get_or claims w n l ∙ ap (λ (x : ℕ). Some x) (sym c.index_mut-3.ensures.value) in
    omega (arith, k.claimed w n mine, claims_by-le w c.self.inside.journal.items, k.owing, k.enough, c.self.inside.journal.small, c.self.inside.rows.small)

pub invariant_of-self : goal.invariant_of-self
invariant_of-self c =
    let k = c.self.invariant.0 in
    let rows = c.self.inside.rows.items in
    let holds = c.self.inside.holds.items in
    let claims = c.self.inside.claims.items in
    let w = c.args.worker in
    let t = c.args.ticket in
    let p = c.args.path.now in
    let n = c.index_mut-3.result.now in
    let ready : IsReady (the_view c.self.inside) w = subst (λ (x : Ledger). IsReady x w) (sym c.self.view_is) c.requires in
    let l : w < length claims = omega (arith, ready.0, k.same_workers) in
    let mine : slice_get claims w ≡ Some n = slice_get-get_or claims w n l ∙ ap (λ (x : ℕ). Some x) (sym c.index_mut-3.ensures.value) in
    let d : Option ℕ = None in
    let free : slice_get holds w ≡ Some None = place-free (the_view c.self.inside) holds w (get_or holds w d) k.holding ready (slice_get-get_or holds w d ready.0) in
    let e : slice_get rows t ≡ Some (row p Open) = ap (λ (x : List Row). slice_get x t) (sym c.deref.ensures.value) ∙ c.is_waiting.ensures.0 c.if-not-is_waiting.false in
    let same : c.index_mut.result.now ≡ row p Open = c.index_mut.ensures.value ∙ get_or_from_slice_get rows t (row p Open) c.index_mut.result.now e in
    let ordered : IsLine (slice_set rows t (row c.index_mut.result.now.path (Held w))) c.self.inside.next.items =
    subst (λ (x : List ℕ). IsLine (slice_set rows t (row x (Held w))) c.self.inside.next.items) (sym (ap (λ (r : Row). r.path) same))
    (line-mark rows c.self.inside.next.items t p Open (Held w) e (λ h. refl) c.self.invariant.1) in (
      claimed-right rows c.self.inside.best c.self.inside.halted c.self.inside.open_paths holds claims c.self.inside.journal.items c.push_reserved.new.self.items
          (vec_capacity c.self.inside.journal) (vec_capacity c.push_reserved.new.self) w t n p c.index_mut.result.now.path
          c.if-self.false e free mine (ap (λ (r : Row). r.path) same) c.push_reserved.ensures.items c.push_reserved.ensures.capacity k,
      ordered,
    )

pub returns : goal.returns
returns c =
    let rows = c.self.inside.rows.items in
    let t = c.args.ticket in
    let p = c.args.path.now in
    let e : slice_get rows t ≡ Some (row p Open) = ap (λ (x : List Row). slice_get x t) (sym c.deref.ensures.value) ∙ c.is_waiting.ensures.0 c.if-not-is_waiting.false in
    let same : c.index_mut.result.now ≡ row p Open = c.index_mut.ensures.value ∙ get_or_from_slice_get rows t (row p Open) c.index_mut.result.now e in
    let now : Ledger = ledger_of (book_of (slice_set rows t (row c.index_mut.result.now.path (Held c.args.worker))) c.self.inside.best c.self.inside.halted)
    (length (slice_set c.self.inside.holds.items c.args.worker (Some t))) c.push_reserved.new.self.items in
    subst (λ (x : Ledger). IsClaim x c.args.worker t p claim.Live now) c.self.view_is
    (claimed-live rows c.self.inside.best c.self.inside.halted c.self.inside.holds.items c.self.inside.journal.items c.push_reserved.new.self.items c.args.worker t p c.index_mut.result.now.path
    c.if-self.false e (ap (λ (r : Row). r.path) same) c.push_reserved.ensures.items)
