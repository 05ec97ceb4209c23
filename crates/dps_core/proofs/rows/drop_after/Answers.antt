use Rattle.std.proofs.Common.{◌≡◌, Vec, Global, ℕ, ◌+◌, ◌<◌, List, length, get_or, Some, true, false, refl, ap, ◌∙◌, sym, arith}
use Rattle.std.specs.Prelude.{slice_get, slice_set}
use Rattle.std.proofs.lemmas.Option.{get_or_from_slice_get, slice_get-get_or}
use Rattle.dps_path.specs.Order.{before}
use Rattle.dps_core.specs.declared.rows.Row.{Row}
use Rattle.dps_core.specs.Book.{row, drop_mark, dropped_after}
use Rattle.dps_core.proofs.Dropping.{half, half-here, half-path, drop-next, keep-next}
use Rattle.dps_core.proofs.rows.drop_after.Goals.{then-before, else-before}
use Rattle.dps_core.proofs.rows.drop_after.Goals as goal

pub loop-place-preserved : goal.loop-place-preserved
loop-place-preserved c = λ r e.
    let rows = c.args.rows.now.items in
    let now = c.loop-place.rows.items in
    let i = c.loop-place.place in
    let d = c.index-in-loop-place.result.now in
    let is : now ≡ half (dropped_after r.path) i rows = c.loop-place.invariant r e in
    let l : i < length rows = omega (arith, c.args.rows.now.ok) in
    let x : Row = get_or rows i d in
    let ex : slice_get rows i ≡ Some x = slice_get-get_or rows i d l in
    let here : slice_get now i ≡ Some x = ap (λ (xs : List Row). slice_get xs i) is ∙ half-here (dropped_after r.path) i rows x ex in
    let q = half-path r.path i c.args.index rows r e in
    let same : d ≡ x = c.index-in-loop-place.ensures ∙ get_or_from_slice_get now i x d here in
    let mine : c.index.result.now ≡ q.0 = c.index.ensures ∙ get_or_from_slice_get now c.args.index q.0 c.index.result.now (ap (λ (xs : List Row). slice_get xs c.args.index) is ∙ q.1) in
    let b : c.before-in-loop-place.result ≡ before r.path x.path = c.before-in-loop-place.ensures ∙ ap (λ (a : Row). before a.path d.path) mine ∙ ap (λ (p : List ℕ). before p d.path) q.2
    ∙ ap (λ (a : Row). before r.path a.path) same in
    elim c.if-before.branch [
      | then-before w ↦
          let mark : w.index-then-before.result.now ≡ x = w.index-then-before.ensures ∙ get_or_from_slice_get now i x w.index-then-before.result.now here in
          let path : w.index_mut.result.now ≡ x = w.index_mut.ensures.value ∙ get_or_from_slice_get now i x w.index_mut.result.now here in
          ap (λ (v : Vec Row Global). v.items) w.rows-is
          ∙ drop-next r.path i rows now x w.index_mut.result.now w.dropped.result is ex (sym b ∙ w.if-before.true) path (w.dropped.ensures ∙ ap (λ (a : Row). drop_mark a.mark) mark)
      | else-before w ↦ ap (λ (v : Vec Row Global). v.items) w.rows-is ∙ keep-next r.path i rows now x is ex (sym b ∙ w.if-before.false)
    ]
