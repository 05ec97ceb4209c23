use Rattle.std.proofs.Common.{◌≡◌, ℕ, ◌+◌, ◌<◌, List, length, Option, Some, Bool, cond, ap, ◌∙◌, sym, subst, arith}
use Rattle.std.specs.Prelude.{slice_get, slice_set, slice_index_or}
use Rattle.std.proofs.lemmas.Option.{slice_get-get_or, slice_get_within}
use Rattle.dps_book.specs.Right.{opens}
use Rattle.dps_book.specs.InOrder.{first_of}
use Rattle.dps_book.proofs.Counts.{opens-le}
use Rattle.dps_book.proofs.Cutting.{IsCutting, cutting-none, cutting-next, cutting-link, cutting-ends, links, waits, links-cut}
use Rattle.dps_book.proofs.line.drop_behind.Goals.{then-drop_at, else-drop_at}
use Rattle.dps_book.proofs.line.drop_behind.Goals as goal

-- what is taken is what was there
taken : (next : List (Option ℕ)) (t : ℕ) (at place : Option ℕ) → t < length next → at ≡ slice_index_or next t at → place ≡ at → slice_get next t ≡ Some place
taken next t at place w e f = slice_get-get_or next t at w ∙ ap (λ (x : Option ℕ). Some x) (sym e) ∙ ap (λ (x : Option ℕ). Some x) (sym f)

pub overflow_add-dropped : goal.overflow_add-dropped
overflow_add-dropped c =
    let was_open = ap {B = ℕ} (λ (b : Bool). cond b 1 0) c.if-drop_at.true in
    omega (arith, was_open, c.drop_at.ensures.count, c.loop-place.invariant.counts, opens-le c.args.rows.now.items, c.args.rows.now.ok, c.args.rows.now.small)

pub index_mut-requires-in-Some : goal.index_mut-requires-in-Some
index_mut-requires-in-Some c =
    let cut = c.loop-place.next.items in
    let k = cutting-link c.args.rows.now.items c.args.next.now.items c.args.ticket c.loop-place.rows.items cut c.in-Some.behind c.loop-place.place c.loop-place.dropped
    c.in-Some.is c.loop-place.invariant in
    omega (arith, slice_get_within cut c.in-Some.behind k.0 k.1, c.loop-place.next.ok)

pub loop-place-init : goal.loop-place-init
loop-place-init c =
    let rows = c.args.rows.now.items in
    let next = c.args.next.now.items in
    let t = c.args.ticket in
    let k = c.requires.leads in
    let e = taken next t c.index_mut.result.now c.take-place.result (slice_get_within next t (first_of k.0) k.1.0) c.index_mut.ensures.value c.take-place.ensures.value in
    subst (λ (x : Option ℕ). IsCutting rows next t rows (slice_set next t x) c.take-place.result 0) (sym c.take-place.ensures.after)
    (cutting-none rows next t c.take-place.result k.0 k.1 k.2 e)

pub loop-place-preserved : goal.loop-place-preserved
loop-place-preserved c =
    let rows = c.args.rows.now.items in
    let next = c.args.next.now.items in
    let t = c.args.ticket in
    let old = c.loop-place.rows.items in
    let cut = c.loop-place.next.items in
    let u = c.in-Some.behind in
    let new = c.drop_at.new.rows.items in
    let link = c.take-place-in-Some.result in
    let k = cutting-link rows next t old cut u c.loop-place.place c.loop-place.dropped c.in-Some.is c.loop-place.invariant in
    let e = taken cut u c.index_mut-in-Some.result.now link (slice_get_within cut u k.0 k.1) c.index_mut-in-Some.ensures.value c.take-place-in-Some.ensures.value in
    let counts : c.if-drop_at.dropped + opens new ≡ c.loop-place.dropped + opens old = elim c.if-drop_at.branch [
      | then-drop_at w ↦ omega (arith, w.dropped-is, c.drop_at.ensures.count, ap {B = ℕ} (λ (b : Bool). cond b 1 0) w.if-drop_at.true)
      | else-drop_at w ↦ omega (arith, w.dropped-is, c.drop_at.ensures.count, ap {B = ℕ} (λ (b : Bool). cond b 1 0) w.if-drop_at.false)
    ] in
    subst (λ (x : Option ℕ). IsCutting rows next t new (slice_set cut u x) link c.if-drop_at.dropped) (sym c.take-place-in-Some.ensures.after)
    (cutting-next rows next t old new cut u c.loop-place.place link c.loop-place.dropped c.if-drop_at.dropped c.in-Some.is c.drop_at.ensures.rows e counts c.loop-place.invariant)

pub loop-place-smaller : goal.loop-place-smaller
loop-place-smaller c =
    let cut = c.loop-place.next.items in
    let u = c.in-Some.behind in
    let link = c.take-place-in-Some.result in
    let k = cutting-link c.args.rows.now.items c.args.next.now.items c.args.ticket c.loop-place.rows.items cut u c.loop-place.place c.loop-place.dropped
    c.in-Some.is c.loop-place.invariant in
    let e = taken cut u c.index_mut-in-Some.result.now link (slice_get_within cut u k.0 k.1) c.index_mut-in-Some.ensures.value c.take-place-in-Some.ensures.value in
    let none = ap (λ (x : Option ℕ). links (slice_set cut u x)) c.take-place-in-Some.ensures.after in
    let less : links (slice_set cut u c.take-place-in-Some.new.self) + waits link < links cut + waits c.loop-place.place =
    omega (arith, none, links-cut cut u link e, ap waits c.in-Some.is) in
    less

pub returns : goal.returns
returns c =
    cutting-ends c.args.rows.now.items c.args.next.now.items c.args.ticket c.loop-place.rows.items c.loop-place.next.items c.loop-place.place c.loop-place.dropped
    c.in_default.is c.loop-place.invariant
