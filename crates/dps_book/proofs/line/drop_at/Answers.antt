use Rattle.std.proofs.Common.{◌≡◌, ℕ, Some, Bool, cond, ap, ◌∙◌, sym, arith}
use Rattle.std.specs.Prelude.{slice_get, slice_set}
use Rattle.std.proofs.lemmas.Option.{slice_get-get_or}
use Rattle.dps_core.specs.declared.event.Mark.{Mark}
use Rattle.dps_core.specs.declared.rows.Row.{Row}
use Rattle.dps_core.specs.Book.{row}
use Rattle.dps_book.specs.Right.{opens}
use Rattle.dps_book.proofs.Cutting.{dropped-set, opens-dropped_at}
use Rattle.dps_book.proofs.line.drop_at.Goals as goal

pub returns-clause-rows : goal.returns-clause-rows
returns-clause-rows c =
    let rows = c.args.rows.now.items in
    let i = c.args.index in
    let r : Row = c.index_mut-row.result.now in
    let e : slice_get rows i ≡ Some r = slice_get-get_or rows i r c.requires ∙ ap (λ (x : Row). Some x) (sym c.index_mut-row.ensures.value) in
    ap (λ (m : Mark). slice_set rows i (row r.path m)) c.dropped-row.ensures ∙ dropped-set rows i r e

pub returns-clause-count : goal.returns-clause-count
returns-clause-count c =
    let rows = c.args.rows.now.items in
    let i = c.args.index in
    let r : Row = c.index_mut-row.result.now in
    let e : slice_get rows i ≡ Some r = slice_get-get_or rows i r c.requires ∙ ap (λ (x : Row). Some x) (sym c.index_mut-row.ensures.value) in
    let after = ap (λ (m : Mark). opens (slice_set rows i (row r.path m))) c.dropped-row.ensures ∙ ap opens (dropped-set rows i r e) in
    let flag = ap {B = ℕ} (λ (b : Bool). cond b 1 0) c.is_open-was_open.ensures in
    omega (arith, flag, after, opens-dropped_at rows i r e)
