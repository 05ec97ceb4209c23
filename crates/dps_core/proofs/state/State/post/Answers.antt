use Rattle.std.proofs.Common.{◌≡◌, ℕ, ◌<◌, List, [], length, get_or, Some, true, false, refl, ap, ◌∙◌, sym, subst, arith}
use Rattle.std.specs.Prelude.{slice_get, slice_set}
use Rattle.std.proofs.lemmas.Option.{get_or_from_slice_get, slice_get-get_or}
use Rattle.dps_core.specs.declared.event.Event.TheVariants as event
use Rattle.dps_core.specs.declared.event.Mark.{Mark}
use Rattle.dps_core.specs.declared.event.Mark.TheVariants.{Held, DroppedHeld, Dropped}
use Rattle.dps_core.specs.declared.rows.Row.{Row}
use Rattle.dps_core.specs.contracts.state.State.{the_view}
use Rattle.dps_core.specs.Answers.{HasHeld}
use Rattle.dps_core.specs.Book.{row, with_mark}
use Rattle.dps_core.specs.Pool.{Pool, Step, without}
use Rattle.dps_core.proofs.Books.{book_of}
use Rattle.dps_core.proofs.Pools.{pool_of}
use Rattle.dps_core.proofs.Moves.{late-step, no-mark}
use Rattle.dps_core.proofs.state.State.post.Goals as goal

pub returns-then-is_dropped_held_by-clause-answer : goal.returns-then-is_dropped_held_by-clause-answer
returns-then-is_dropped_held_by-clause-answer c =
    let rows = c.self.inside.rows.items in
    let hands = c.self.inside.hands.items in
    let w = c.args.worker in
    let t = c.args.ticket in
    let r : Row = c.index.result.now in
    let l : t < length rows = omega (arith, c.self.inside.rows.ok) in
    let e : slice_get rows t ≡ Some r = slice_get-get_or rows t r l ∙ ap (λ (a : Row). Some a) (sym c.index.ensures) in
    let m : r.mark ≡ DroppedHeld w = c.is_dropped_held_by.ensures.0 c.if-is_dropped_held_by.true in
    let same : c.index_mut.result.now ≡ r = c.index_mut.ensures.value ∙ get_or_from_slice_get rows t r c.index_mut.result.now e in
    let hand : List ℕ = c.index_mut-then-is_dropped_held_by.result.now in
    let k : w < length hands = omega (arith, c.self.inside.hands.ok) in
    let h : slice_get hands w ≡ Some hand = slice_get-get_or hands w hand k ∙ ap (λ (a : List ℕ). Some a) (sym c.index_mut-then-is_dropped_held_by.ensures.value) in
    subst (λ (x : Row). Step c.args.self.now (event.Post w t c.args.found)
    (pool_of (book_of (with_mark rows t x.path Dropped) c.self.inside.best c.self.inside.halted) c.self.inside.decks.items (slice_set hands w c.take_out.new.self))) (sym same)
    (subst (λ (s : Pool). Step s (event.Post w t c.args.found)
    (pool_of (book_of (with_mark rows t r.path Dropped) c.self.inside.best c.self.inside.halted) c.self.inside.decks.items (slice_set hands w c.take_out.new.self))) c.self.view_is
    (late-step (the_view c.self.inside) w t hand c.take_out.new.self r c.args.found h e m c.take_out.ensures))

pub returns-then-not-is_held_by-clause-answer : goal.returns-then-not-is_held_by-clause-answer
returns-then-not-is_held_by-clause-answer c =
    let rows = c.self.inside.rows.items in
    let w = c.args.worker in
    let t = c.args.ticket in
    let r : Row = c.index.result.now in
    let l : t < length rows = omega (arith, c.self.inside.rows.ok) in
    let e : slice_get rows t ≡ Some r = slice_get-get_or rows t r l ∙ ap (λ (a : Row). Some a) (sym c.index.ensures) in
    let same : c.index-2.result.now ≡ r = c.index-2.ensures ∙ get_or_from_slice_get rows t r c.index-2.result.now e in
    let f = λ (m : r.mark ≡ DroppedHeld w). let clash : true ≡ false = sym (c.is_dropped_held_by.ensures.1 m) ∙ c.if-is_dropped_held_by.false in let no : ⊥ = cc in no in
    let g = λ (m : r.mark ≡ Held w). let clash : true ≡ false = sym (c.is_held_by.ensures.1 (ap (λ (a : Row). a.mark) same ∙ m)) ∙ c.if-not-is_held_by.true in let no : ⊥ = cc in no in
    (refl, λ any step. no-mark (the_view c.self.inside) any w t r c.args.found e f g (subst (λ (s : Pool). Step s (event.Post w t c.args.found) any) (sym c.self.view_is) step))

held : (rows : List Row) (hands : List (List ℕ)) (w t : ℕ) (r d : Row) (hand : List ℕ) → t < length rows → w < length hands → d ≡ get_or rows t d → d.mark ≡ Held w
    → (h : List ℕ) × (p : List ℕ) × (slice_get hands w ≡ Some h) × (slice_get rows t ≡ Some (row p (Held w)))
held rows hands w t r d hand l k e m =
    (get_or hands w hand, d.path, slice_get-get_or hands w hand k, slice_get-get_or rows t d l ∙ ap (λ (a : Row). Some a) (sym e) ∙ ap (λ (a : Mark). Some (row d.path a)) m)

pub post_kids-requires : goal.post_kids-requires
post_kids-requires c =
    subst (λ (s : Pool). HasHeld s c.args.worker c.args.ticket) c.self.view_is
    (held c.self.inside.rows.items c.self.inside.hands.items c.args.worker c.args.ticket c.index-2.result.now c.index-2.result.now [] (omega (arith, c.self.inside.rows.ok))
    (omega (arith, c.self.inside.hands.ok)) c.index-2.ensures (c.is_held_by.ensures.0 c.if-not-is_held_by.false))

pub post_stop-requires : goal.post_stop-requires
post_stop-requires c =
    subst (λ (s : Pool). HasHeld s c.args.worker c.args.ticket) c.self.view_is
    (held c.self.inside.rows.items c.self.inside.hands.items c.args.worker c.args.ticket c.index-2.result.now c.index-2.result.now [] (omega (arith, c.self.inside.rows.ok))
    (omega (arith, c.self.inside.hands.ok)) c.index-2.ensures (c.is_held_by.ensures.0 c.if-not-is_held_by.false))
