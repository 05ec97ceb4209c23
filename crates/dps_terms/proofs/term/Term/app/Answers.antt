use Rattle.std.proofs.Common.{ap, arith, length}
use Rattle.dps_terms.specs.Tree.{app, trees}
use Rattle.dps_terms.proofs.Preorder.{app_cells, app_narrow, are_term, read_from}
use Rattle.dps_terms.proofs.term.Term.app.Goals as goal

pub invariant_of-result : goal.invariant_of-result
invariant_of-result c =
    let items = c.args.arguments.items in
    let cells = app_cells c.args.sym items _ _ _ _ c.put_all.new.cells.items (omega (arith, c.len.ensures, c.deref.ensures.len, ap length c.deref.ensures.value))
    (rw c.deref.ensures.value at c.in-Some.ensures) c.in_ok-cells.ensures.items c.in_ok-push.ensures.ok (rw c.deref-2.ensures.value at c.in_ok-put_all.ensures.cells) in
    are_term (app c.args.sym (trees items)) c.put_all.new.cells.items cells
    (app_narrow c.args.sym items (omega (arith, c.requires, c.deref.ensures.len, ap length c.deref.ensures.value)) (rw c.deref-2.ensures.value at c.in_ok-put_all.ensures.narrow))

pub returns : goal.returns
returns c =
    let items = c.args.arguments.items in
    let cells = app_cells c.args.sym items _ _ _ _ c.put_all.new.cells.items (omega (arith, c.len.ensures, c.deref.ensures.len, ap length c.deref.ensures.value))
    (rw c.deref.ensures.value at c.in-Some.ensures) c.in_ok-cells.ensures.items c.in_ok-push.ensures.ok (rw c.deref-2.ensures.value at c.in_ok-put_all.ensures.cells) in
    read_from (app c.args.sym (trees items)) c.put_all.new.cells.items cells
