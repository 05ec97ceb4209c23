use Rattle.std.proofs.lemmas.Result.{err_from_is_err_and}
use Rattle.dps_syntax.specs.Parts.{parts_of}
use Rattle.dps_names.proofs.Declaring.{functions_next, functions_refused}
use Rattle.dps_names.proofs.declaration.declare_functions.Goals as goal

pub returns-in_err-declare_function : goal.returns-in_err-declare_function
returns-in_err-declare_function c =
    let p = err_from_is_err_and c.from_residual.result c.from_residual.ensures.1 in
    rw (p.1, p.2) (functions_refused (parts_of c.args.parts.now) c.args.draft.now (parts_of c.loop-name.rest.now) (parts_of c.in-Some.behind.now) c.in-Some.name.now c.in-Some.arity.now
    c.loop-name.draft c.declare_function.new.draft c.in_err-declare_function.field-0.0 c.loop-name.invariant c.in-Some.ensures.found c.in_err-declare_function.ensures)

pub loop-name-preserved : goal.loop-name-preserved
loop-name-preserved c =
    functions_next (parts_of c.args.parts.now) c.args.draft.now (parts_of c.loop-name.rest.now) (parts_of c.in-Some.behind.now) c.in-Some.name.now c.in-Some.arity.now c.loop-name.draft
    c.declare_function.new.draft c.loop-name.invariant c.in-Some.ensures.found c.in_ok-declare_function.ensures
