use Rattle.std.proofs.Common.{◌≡◌, ℕ, ◌-◌, ◌∷◌, length, map, List, Option, Some, None, refl, ap, ◌∙◌, sym, subst, arith}
use Rattle.std.specs.Prelude.{slice_get, slice_set}
use Rattle.std.specs.Vec.{vec_capacity}
use Rattle.std.proofs.lemmas.Option.{get_or_from_slice_get, slice_get_within}
use Rattle.dps_core.specs.declared.event.Mark.TheVariants.{Held, Posted}
use Rattle.dps_core.specs.declared.event.Post.TheVariants as result
use Rattle.dps_core.specs.declared.event.Posted.TheVariants as answer
use Rattle.dps_core.specs.declared.rows.Row.{Row}
use Rattle.dps_core.specs.Book.{row, dropped_after, with_mark}
use Rattle.dps_core.proofs.Books.{book_of}
use Rattle.dps_book.specs.contracts.book.Book.{the_view}
use Rattle.dps_book.specs.Ledger.{Ledger, HasMark, IsPost}
use Rattle.dps_book.specs.Right.{opens}
use Rattle.dps_book.proofs.Counts.{owed-set, opens-set}
use Rattle.std.proofs.Math.ListN.{length-set}
use Rattle.dps_book.specs.InOrder.{IsLine, IsCut}
use Rattle.dps_book.proofs.Chains.{leads-suffix, once-suffix}
use Rattle.dps_book.proofs.Lines.{around}
use Rattle.dps_book.proofs.Stops.{cut-rows, line-stop}
use Rattle.dps_book.proofs.Ledgers.{ledger_of, stop-right, posted-as}
use Rattle.dps_book.proofs.book.Book.post_stop.Goals as goal

pub overflow_sub-self : goal.overflow_sub-self
overflow_sub-self c =
    let h : HasMark (the_view c.self.inside) c.args.ticket (Held c.args.worker) = subst (λ (x : Ledger). HasMark x c.args.ticket (Held c.args.worker)) (sym c.self.view_is) c.requires in
    omega (arith, opens-set c.self.inside.rows.items c.args.ticket (row h.0 (Held c.args.worker)) (row h.0 Posted) h.1, c.self.invariant.0.counted)

pub index_mut-requires-2 : goal.index_mut-requires-2
index_mut-requires-2 c =
    let h : HasMark (the_view c.self.inside) c.args.ticket (Held c.args.worker) = subst (λ (x : Ledger). HasMark x c.args.ticket (Held c.args.worker)) (sym c.self.view_is) c.requires in
    let mine : slice_get c.self.inside.holds.items c.args.worker ≡ Some (Some c.args.ticket) = c.self.invariant.0.holding.held c.args.ticket c.args.worker (row h.0 (Held c.args.worker)) h.1 refl in
    omega (arith, slice_get_within c.self.inside.holds.items c.args.worker (Some c.args.ticket) mine, c.self.inside.holds.ok)

pub push_reserved-requires : goal.push_reserved-requires
push_reserved-requires c =
    let h : HasMark (the_view c.self.inside) c.args.ticket (Held c.args.worker) = subst (λ (x : Ledger). HasMark x c.args.ticket (Held c.args.worker)) (sym c.self.view_is) c.requires in
    omega (arith, owed-set c.self.inside.rows.items c.args.ticket (row h.0 (Held c.args.worker)) (row h.0 Posted) h.1, c.self.invariant.0.owing, c.self.invariant.0.enough, c.self.inside.journal.ok)

-- the rows before anything is dropped
marked : (rows : List Row) (t w : ℕ) (p : List ℕ) (q : Row) → q ≡ row p (Held w) → slice_set rows t (row q.path Posted) ≡ with_mark rows t p Posted
marked rows t w p q e = ap (λ (r : Row). slice_set rows t (row r.path Posted)) e

cut_at : (rows new : List Row) (next cut : List (Option ℕ)) (t w count : ℕ) (p : List ℕ) (q : Row) → q ≡ row p (Held w) → IsCut (slice_set rows t (row q.path Posted)) next t new cut count
    → IsCut (with_mark rows t p Posted) next t new cut count
cut_at rows new next cut t w count p q e c = subst (λ (x : List Row). IsCut x next t new cut count) (marked rows t w p q e) c

cut_is : (rows new : List Row) (next cut : List (Option ℕ)) (t w count : ℕ) (p : List ℕ) → slice_get rows t ≡ Some (row p (Held w)) → IsLine rows next
    → IsCut (with_mark rows t p Posted) next t new cut count → new ≡ map (dropped_after p) (with_mark rows t p Posted)
cut_is rows new next cut t w count p e line c = cut-rows rows new next cut t w count p (around rows next t (row p (Held w)) e refl line) e c

pub drop_behind-dropped-requires : goal.drop_behind-dropped-requires
drop_behind-dropped-requires c =
    let rows = c.self.inside.rows.items in
    let next = c.self.inside.next.items in
    let w = c.args.worker in
    let t = c.args.ticket in
    let h : HasMark (the_view c.self.inside) t (Held w) = subst (λ (x : Ledger). HasMark x t (Held w)) (sym c.self.view_is) c.requires in
    let k = around rows next t (row h.0 (Held w)) h.1 refl c.self.invariant.1 in
    record {
      each = c.self.invariant.1.each ∙ sym (length-set rows t (row c.index_mut.result.now.path Posted));
      leads = (k.behind, leads-suffix next k.front (t ∷ k.behind) k.leads, once-suffix k.front (t ∷ k.behind) k.once);
    }

pub overflow_sub-self-2 : goal.overflow_sub-self-2
overflow_sub-self-2 c =
    let rows = c.self.inside.rows.items in
    let w = c.args.worker in
    let t = c.args.ticket in
    let h : HasMark (the_view c.self.inside) t (Held w) = subst (λ (x : Ledger). HasMark x t (Held w)) (sym c.self.view_is) c.requires in
    let same : c.index_mut.result.now ≡ row h.0 (Held w) = c.index_mut.ensures.value ∙ get_or_from_slice_get rows t (row h.0 (Held w)) c.index_mut.result.now h.1 in
    let is : IsCut (with_mark rows t h.0 Posted) c.self.inside.next.items t c.drop_behind-dropped.new.rows.items c.drop_behind-dropped.new.next.items c.drop_behind-dropped.result =
    cut_at rows c.drop_behind-dropped.new.rows.items c.self.inside.next.items c.drop_behind-dropped.new.next.items t w
    c.drop_behind-dropped.result h.0 c.index_mut.result.now same c.drop_behind-dropped.ensures in
    omega (arith, is.counts, opens-set rows t (row h.0 (Held w)) (row h.0 Posted) h.1, c.self.invariant.0.counted)

pub invariant_of-self : goal.invariant_of-self
invariant_of-self c =
    let rows = c.self.inside.rows.items in
    let holds = c.self.inside.holds.items in
    let w = c.args.worker in
    let t = c.args.ticket in
    let h : HasMark (the_view c.self.inside) t (Held w) = subst (λ (x : Ledger). HasMark x t (Held w)) (sym c.self.view_is) c.requires in
    let mine : slice_get holds w ≡ Some (Some t) = c.self.invariant.0.holding.held t w (row h.0 (Held w)) h.1 refl in
    let same : c.index_mut.result.now ≡ row h.0 (Held w) = c.index_mut.ensures.value ∙ get_or_from_slice_get rows t (row h.0 (Held w)) c.index_mut.result.now h.1 in
    let next = c.self.inside.next.items in
    let new = c.drop_behind-dropped.new.rows.items in
    let cut = c.drop_behind-dropped.new.next.items in
    let left = c.self.inside.open_paths - 1 - c.drop_behind-dropped.result in
    let is : IsCut (with_mark rows t h.0 Posted) next t new cut c.drop_behind-dropped.result =
    cut_at rows new next cut t w c.drop_behind-dropped.result h.0 c.index_mut.result.now same c.drop_behind-dropped.ensures in
    let after : new ≡ map (dropped_after h.0) (with_mark rows t h.0 Posted) = cut_is rows new next cut t w c.drop_behind-dropped.result h.0 h.1 c.self.invariant.1 is in
    let count : left ≡ opens new = omega (arith, is.counts, opens-set rows t (row h.0 (Held w)) (row h.0 Posted) h.1, c.self.invariant.0.counted) in
    let ordered : IsLine new cut = line-stop rows new next cut t w c.drop_behind-dropped.result h.0 h.1 is after c.self.invariant.1 in (
      stop-right rows new c.self.inside.best c.self.inside.halted c.self.inside.open_paths left holds c.self.inside.claims.items
          c.self.inside.journal.items c.push_reserved.new.self.items (vec_capacity c.self.inside.journal) (vec_capacity c.push_reserved.new.self) w t c.args.kind h.0
          h.1 mine count after c.push_reserved.ensures.items c.push_reserved.ensures.capacity c.self.invariant.0,
      ordered,
    )

pub returns : goal.returns
returns c = λ path e.
    let rows = c.self.inside.rows.items in
    let w = c.args.worker in
    let t = c.args.ticket in
    let here : slice_get rows t ≡ Some (row path (Held w)) = ap (λ (x : Ledger). slice_get x.book.rows t) c.self.view_is ∙ e in
    let same : c.index_mut.result.now ≡ row path (Held w) = c.index_mut.ensures.value ∙ get_or_from_slice_get rows t (row path (Held w)) c.index_mut.result.now here in
    let next = c.self.inside.next.items in
    let new = c.drop_behind-dropped.new.rows.items in
    let cut = c.drop_behind-dropped.new.next.items in
    let is : IsCut (with_mark rows t path Posted) next t new cut c.drop_behind-dropped.result =
    cut_at rows new next cut t w c.drop_behind-dropped.result path c.index_mut.result.now same c.drop_behind-dropped.ensures in
    let after : new ≡ map (dropped_after path) (with_mark rows t path Posted) = cut_is rows new next cut t w c.drop_behind-dropped.result path here c.self.invariant.1 is in
    let now : Ledger = ledger_of (book_of new (Some (t, c.args.kind)) c.self.inside.halted) (length (slice_set c.self.inside.holds.items w None))
    c.push_reserved.new.self.items in
    subst (λ (x : Ledger). IsPost x w t path (result.Stop c.args.kind) answer.Best now) c.self.view_is
    (posted-as rows new c.self.inside.best (Some (t, c.args.kind)) c.self.inside.halted c.self.inside.holds.items c.self.inside.journal.items
    c.push_reserved.new.self.items w t path (result.Stop c.args.kind) answer.Best (book_of (map (dropped_after path) (with_mark rows t path Posted)) (Some (t, c.args.kind)) c.self.inside.halted)
    (ap (λ (x : List Row). book_of x (Some (t, c.args.kind)) c.self.inside.halted) (sym after)) (here, refl) c.push_reserved.ensures.items)
