use Rattle.std.proofs.Common.{sym}
use Rattle.std.proofs.lemmas.Result.{err_from_is_err_and}
use Rattle.dps_names.proofs.Declaring.{files_refused}
use Rattle.dps_names.proofs.declaration.declare_all.Goals as goal

pub returns-in_err-declare : goal.returns-in_err-declare
returns-in_err-declare c =
    let p = err_from_is_err_and c.from_residual.result c.from_residual.ensures.1 in
    let items = c.args.declarations.now in
    rw (p.1, p.2) (files_refused items c.args.draft.now items c.loop-declaration.declaration-index c.declaration-item.result c.declaration-item.result c.loop-declaration.draft
    c.declare.new.draft c.in_err-declare.field-0.0 c.loop-declaration.invariant c.loop-declaration-test.true (sym c.declaration-item.is) c.in_err-declare.ensures)
