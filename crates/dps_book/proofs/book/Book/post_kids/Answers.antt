use Rattle.std.proofs.Common.{◌≡◌, ℕ, ◌+◌, ◌*◌, ◌-◌, ◌≤◌, [], ◌∷◌, ◌++◌, length, List, Option, Some, None, refl, ap, ◌∙◌, sym, subst, arith}
use Rattle.std.specs.Prelude.{slice_get, slice_set}
use Rattle.std.specs.Vec.{vec_capacity}
use Rattle.std.proofs.lemmas.Option.{get_or_from_slice_get, slice_get_within}
use Rattle.dps_core.specs.declared.event.Mark.TheVariants.{Held, Posted}
use Rattle.dps_core.specs.declared.event.Post.TheVariants as result
use Rattle.dps_core.specs.declared.event.Posted.TheVariants as answer
use Rattle.dps_core.specs.declared.rows.Row.{Row}
use Rattle.dps_core.specs.Book.{row, kids, with_mark}
use Rattle.dps_core.proofs.Books.{book_of}
use Rattle.dps_core.proofs.Lists.{append-left, set-append}
use Rattle.dps_book.specs.contracts.book.Book.{the_view}
use Rattle.dps_book.specs.declared.entry.Entry.{Entry}
use Rattle.dps_book.specs.declared.entry.Entry.TheVariants as entry
use Rattle.dps_book.specs.Ledger.{Ledger, HasMark, IsPost}
use Rattle.dps_book.proofs.Counts.{owed-set, opens-set, opens-le}
use Rattle.dps_core.specs.Pool.{tickets}
use Rattle.dps_core.proofs.Books.{IsKept}
use Rattle.dps_book.specs.InOrder.{Leads, AreOnce, IsLine}
use Rattle.dps_book.proofs.Kids.{line-kids}
use Rattle.dps_book.proofs.Ledgers.{book-kept, ledger_of, kids-right, posted-as}
use Rattle.dps_book.proofs.book.Book.post_kids.Goals as goal

pub overflow_sub-self : goal.overflow_sub-self
overflow_sub-self c =
    let h : HasMark (the_view c.self.inside) c.args.ticket (Held c.args.worker) = subst (λ (x : Ledger). HasMark x c.args.ticket (Held c.args.worker)) (sym c.self.view_is) c.requires in
    omega (arith, opens-set c.self.inside.rows.items c.args.ticket (row h.0 (Held c.args.worker)) (row h.0 Posted) h.1, c.self.invariant.0.counted)

pub overflow_add-self : goal.overflow_add-self
overflow_add-self c = omega (arith, opens-le c.self.inside.rows.items, c.self.invariant.0.counted, c.self.inside.rows.ok, c.self.inside.rows.small, c.from.ensures)

pub link_kids-requires : goal.link_kids-requires
link_kids-requires c =
    let h : HasMark (the_view c.self.inside) c.args.ticket (Held c.args.worker) = subst (λ (x : Ledger). HasMark x c.args.ticket (Held c.args.worker)) (sym c.self.view_is) c.requires in
    let same = ap length c.make_room.ensures.next in
    record {
      within = omega (arith, slice_get_within c.self.inside.rows.items c.args.ticket (row h.0 (Held c.args.worker)) h.1, c.self.invariant.1.each, same);
      room = omega (arith, c.in_ok-make_room.ensures.links, same);
    }

pub index_mut-requires-2 : goal.index_mut-requires-2
index_mut-requires-2 c =
    let h : HasMark (the_view c.self.inside) c.args.ticket (Held c.args.worker) = subst (λ (x : Ledger). HasMark x c.args.ticket (Held c.args.worker)) (sym c.self.view_is) c.requires in
    let mine : slice_get c.self.inside.holds.items c.args.worker ≡ Some (Some c.args.ticket) = c.self.invariant.0.holding.held c.args.ticket c.args.worker (row h.0 (Held c.args.worker)) h.1 refl in
    omega (arith, slice_get_within c.self.inside.holds.items c.args.worker (Some c.args.ticket) mine, c.self.inside.holds.ok)

pub push_reserved-requires : goal.push_reserved-requires
push_reserved-requires c =
    let h : HasMark (the_view c.self.inside) c.args.ticket (Held c.args.worker) = subst (λ (x : Ledger). HasMark x c.args.ticket (Held c.args.worker)) (sym c.self.view_is) c.requires in
    let journal = c.make_room.ensures.journal in
    omega (
      arith,
      owed-set c.self.inside.rows.items c.args.ticket (row h.0 (Held c.args.worker)) (row h.0 Posted) h.1,
      c.self.invariant.0.owing,
      c.self.invariant.0.enough,
      c.make_room.ensures.more,
      c.self.inside.journal.ok,
      c.make_room.new.journal.ok,
      ap length journal,
    )

-- the rows after the post
grown : (rows room all new : List Row) (t w n : ℕ) (p : List ℕ) (k : List Row) (first q : Row) → slice_get rows t ≡ Some (row p (Held w)) → first ≡ row p (Held w) → k ≡ kids first.path 0 n
    → room ≡ rows → all ≡ room ++ k → q ≡ first → new ≡ slice_set all t (row q.path Posted) → new ≡ with_mark rows t p Posted ++ kids p 0 n
grown rows room all new t w n p k first q e mine kids_are same more here is =
    let a : all ≡ rows ++ kids p 0 n = more ∙ ap (λ (x : List Row). x ++ k) same ∙ ap (λ (x : List Row). rows ++ x) (kids_are ∙ ap (λ (r : Row). kids r.path 0 n) mine) in
    is
    ∙ ap (λ (r : Row). slice_set all t (row r.path Posted)) (here ∙ mine)
    ∙ ap (λ (x : List Row). slice_set x t (row p Posted)) a
    ∙ set-append rows (kids p 0 n) t (row p (Held w)) (row p Posted) e

pub invariant_of-self-2 : goal.invariant_of-self-2
invariant_of-self-2 c =
    let rows = c.self.inside.rows.items in
    let holds = c.self.inside.holds.items in
    let journal = c.self.inside.journal.items in
    let w = c.args.worker in
    let t = c.args.ticket in
    let n = c.args.count in
    let h : HasMark (the_view c.self.inside) t (Held w) = subst (λ (x : Ledger). HasMark x t (Held w)) (sym c.self.view_is) c.requires in
    let held : Row = row h.0 (Held w) in
    let mine : slice_get holds w ≡ Some (Some t) = c.self.invariant.0.holding.held t w held h.1 refl in
    let new : List Row = c.in_ok-kids.kids.items in
    let all : List Row = c.append.new.self.items in
    let more : all ≡ c.make_room.new.rows.items ++ new = c.in_ok-append.ensures.items in
    let first : c.index.result.now ≡ held = c.index.ensures ∙ get_or_from_slice_get rows t held c.index.result.now h.1 in
    let there : slice_get all t ≡ Some held = ap (λ (x : List Row). slice_get x t) (more ∙ ap (λ (x : List Row). x ++ new) c.make_room.ensures.rows) ∙ append-left rows new t held h.1 in
    let here : c.index_mut.result.now ≡ c.index.result.now = c.index_mut.ensures.value ∙ get_or_from_slice_get all t held c.index_mut.result.now there ∙ sym first in
    let rows_are : slice_set all t (row c.index_mut.result.now.path Posted) ≡ with_mark rows t h.0 Posted ++ kids h.0 0 n =
    grown rows c.make_room.new.rows.items all (slice_set all t (row c.index_mut.result.now.path Posted)) t w n h.0 new c.index.result.now c.index_mut.result.now h.1 first c.in_ok-kids.ensures
    c.make_room.ensures.rows more here refl in
    let count : c.self.inside.open_paths - 1 + c.from.result + 1 ≡ c.self.inside.open_paths + n =
    omega (arith, opens-set rows t held (row h.0 Posted) h.1, c.self.invariant.0.counted, c.from.ensures) in
    let enough : 2 * (length rows + n) + 1 ≤ vec_capacity c.push_reserved.new.self = omega (arith, c.in_ok-make_room.ensures.done, c.push_reserved.ensures.capacity) in
    let added : c.push_reserved.new.self.items ≡ journal ++ entry.Posted w t (result.Kids n) ∷ [] = c.push_reserved.ensures.items
    ∙ ap (λ (x : List Entry). x ++ entry.Posted w t (result.Kids n) ∷ []) c.make_room.ensures.journal in
    let next = c.self.inside.next.items in
    let links = c.link_kids.new.next.items in
    let size : length links ≡ length next + n = omega (arith, c.link_kids.ensures.each, ap length c.make_room.ensures.next) in
    let leads = subst (λ (x : List (Option ℕ)). (front behind : List ℕ) → Leads x (front ++ t ∷ behind) → AreOnce (front ++ t ∷ behind) → Leads links (front ++ t ∷ (tickets (length x) n ++ behind)))
    c.make_room.ensures.next c.link_kids.ensures.leads in
    let kept : IsKept (book_of rows c.self.inside.best c.self.inside.halted) = book-kept journal (book_of rows c.self.inside.best c.self.inside.halted) c.self.invariant.0.replay in
    let ordered = line-kids rows c.self.inside.best c.self.inside.halted next links t w n h.0 kept h.1 size leads c.self.invariant.1 in (
      kids-right rows (slice_set all t (row c.index_mut.result.now.path Posted)) c.self.inside.best c.self.inside.halted c.self.inside.open_paths (c.self.inside.open_paths - 1 + c.from.result)
          holds c.self.inside.claims.items journal c.push_reserved.new.self.items (vec_capacity c.self.inside.journal) (vec_capacity c.push_reserved.new.self) w t n h.0
          h.1 mine count enough rows_are added c.self.invariant.0,
      subst (λ (x : List Row). IsLine x links) (sym rows_are) ordered,
    )

pub returns-clause-done : goal.returns-clause-done
returns-clause-done c = λ path e.
    let rows = c.self.inside.rows.items in
    let holds = c.self.inside.holds.items in
    let journal = c.self.inside.journal.items in
    let w = c.args.worker in
    let t = c.args.ticket in
    let n = c.args.count in
    let at : slice_get rows t ≡ Some (row path (Held w)) = ap (λ (x : Ledger). slice_get x.book.rows t) c.self.view_is ∙ e in
    let held : Row = row path (Held w) in
    let new : List Row = c.in_ok-kids.kids.items in
    let all : List Row = c.append.new.self.items in
    let more : all ≡ c.make_room.new.rows.items ++ new = c.in_ok-append.ensures.items in
    let first : c.index.result.now ≡ held = c.index.ensures ∙ get_or_from_slice_get rows t held c.index.result.now at in
    let there : slice_get all t ≡ Some held = ap (λ (x : List Row). slice_get x t) (more ∙ ap (λ (x : List Row). x ++ new) c.make_room.ensures.rows) ∙ append-left rows new t held at in
    let here : c.index_mut.result.now ≡ c.index.result.now = c.index_mut.ensures.value ∙ get_or_from_slice_get all t held c.index_mut.result.now there ∙ sym first in
    let rows_are : slice_set all t (row c.index_mut.result.now.path Posted) ≡ with_mark rows t path Posted ++ kids path 0 n =
    grown rows c.make_room.new.rows.items all (slice_set all t (row c.index_mut.result.now.path Posted)) t w n path new c.index.result.now c.index_mut.result.now at first c.in_ok-kids.ensures
    c.make_room.ensures.rows more here refl in
    let added : c.push_reserved.new.self.items ≡ journal ++ entry.Posted w t (result.Kids n) ∷ [] = c.push_reserved.ensures.items
    ∙ ap (λ (x : List Entry). x ++ entry.Posted w t (result.Kids n) ∷ []) c.make_room.ensures.journal in
    let number : c.len-first.result ≡ length rows = omega (arith, c.len-first.ensures, c.make_room.new.rows.ok, ap length c.make_room.ensures.rows) in
    let now : Ledger = ledger_of (book_of (slice_set all t (row c.index_mut.result.now.path Posted)) c.self.inside.best c.self.inside.halted) (length (slice_set holds w None))
    c.push_reserved.new.self.items in
    subst (λ (x : Ledger). IsPost x w t path (result.Kids n) (answer.Kids c.len-first.result) now) c.self.view_is
    (posted-as rows (slice_set all t (row c.index_mut.result.now.path Posted)) c.self.inside.best c.self.inside.best c.self.inside.halted holds journal c.push_reserved.new.self.items w t path
    (result.Kids n) (answer.Kids c.len-first.result) (book_of (with_mark rows t path Posted ++ kids path 0 n) c.self.inside.best c.self.inside.halted)
    (ap (λ (x : List Row). book_of x c.self.inside.best c.self.inside.halted) (sym rows_are)) (at, number, refl) added)
