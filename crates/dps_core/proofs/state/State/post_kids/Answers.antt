use Rattle.std.proofs.Common.{◌≡◌, ℕ, ◌+◌, ◌<◌, List, ◌∷◌, ◌++◌, [], length, Some, refl, ap, ◌∙◌, sym, subst, arith}
use Rattle.std.specs.Prelude.{slice_get, slice_set}
use Rattle.std.proofs.lemmas.Option.{get_or_from_slice_get}
use Rattle.dps_core.specs.declared.event.Event.TheVariants as event
use Rattle.dps_core.specs.declared.event.Mark.TheVariants.{Held, Posted}
use Rattle.dps_core.specs.declared.event.Post.TheVariants as result
use Rattle.dps_core.specs.declared.rows.Row.{Row}
use Rattle.dps_core.specs.contracts.state.State.{the_view}
use Rattle.dps_core.specs.Answers.{HasHeld}
use Rattle.dps_core.specs.Book.{row, with_mark, kids}
use Rattle.dps_core.specs.Pool.{Pool, Step, without, tickets}
use Rattle.dps_core.proofs.Books.{book_of}
use Rattle.dps_core.proofs.Pools.{pool_of}
use Rattle.dps_core.proofs.Lists.{append-left, set-append}
use Rattle.dps_core.proofs.Moves.{kids-step}
use Rattle.dps_core.proofs.state.State.post_kids.Goals as goal

pub returns-clause-step : goal.returns-clause-step
returns-clause-step c =
    let rows = c.self.inside.rows.items in
    let hands = c.self.inside.hands.items in
    let w = c.args.worker in
    let t = c.args.ticket in
    let n = c.args.count in
    let h : HasHeld (the_view c.self.inside) w t = subst (λ (s : Pool). HasHeld s w t) (sym c.self.view_is) c.requires in
    let hand : List ℕ = h.0 in
    let p : List ℕ = h.1 in
    let held : Row = row p (Held w) in
    let at : c.index.result.now ≡ held = c.index.ensures ∙ get_or_from_slice_get rows t held c.index.result.now h.3 in
    let new : c.in_ok-kids.kids.items ≡ kids p 0 n = c.in_ok-kids.ensures ∙ ap (λ (r : Row). kids r.path 0 n) at in
    let more : c.append.new.self.items ≡ rows ++ kids p 0 n = c.in_ok-append.ensures.items ∙ ap (λ (xs : List Row). rows ++ xs) new in
    let there : slice_get c.append.new.self.items t ≡ Some held = ap (λ (xs : List Row). slice_get xs t) more ∙ append-left rows (kids p 0 n) t held h.3 in
    let same : c.index_mut.result.now ≡ held = c.index_mut.ensures.value ∙ get_or_from_slice_get c.append.new.self.items t held c.index_mut.result.now there in
    let row_is : row c.index_mut.result.now.path Posted ≡ row p Posted = ap (λ (r : Row). row r.path Posted) same in
    let rows_are : slice_set c.append.new.self.items t (row c.index_mut.result.now.path Posted) ≡ with_mark rows t p Posted ++ kids p 0 n =
    ap (λ (r : Row). slice_set c.append.new.self.items t r) row_is ∙ ap (λ (xs : List Row). slice_set xs t (row p Posted)) more ∙ set-append rows (kids p 0 n) t held (row p Posted) h.3 in
    let mine : c.index-2.result.now ≡ hand = c.index-2.ensures ∙ get_or_from_slice_get hands w hand c.index-2.result.now h.2 in
    let first : c.len-first.result ≡ length rows = omega (arith, c.len-first.ensures, c.self.inside.rows.ok) in
    let hand_is : c.in_ok-hand.hand ≡ without t hand ++ tickets (length rows) n =
    c.in_ok-hand.ensures ∙ ap (λ (xs : List ℕ). without t xs ++ tickets c.len-first.result n) mine ∙ ap (λ (k : ℕ). without t hand ++ tickets k n) first in
    subst (λ (s : Pool). Step s (event.Post w t (result.Kids n))
    (pool_of (book_of (slice_set c.append.new.self.items t (row c.index_mut.result.now.path Posted)) c.self.inside.best c.self.inside.halted) c.self.inside.decks.items
    (slice_set hands w c.in_ok-hand.hand))) c.self.view_is
    (kids-step (the_view c.self.inside) w t n hand c.in_ok-hand.hand p (slice_set c.append.new.self.items t (row c.index_mut.result.now.path Posted)) h.2 h.3 hand_is rows_are)
