use Rattle.std.proofs.lemmas.Result.{err_from_is_err_and}
use Rattle.dps_syntax.specs.Parts.{parts_of}
use Rattle.dps_scopes.specs.Blocks.{blocks}
use Rattle.dps_names.proofs.Declaring.{body_told, body_refused}
use Rattle.dps_names.proofs.declaration.body_of.Goals as goal

pub returns-in_err-found-clause-found : goal.returns-in_err-found-clause-found
returns-in_err-found-clause-found c =
    let p = err_from_is_err_and c.from_residual.result c.from_residual.ensures.1 in
    rw (← c.draft.view_is, p.1, p.2)
    (body_refused (λ v. v.items) (parts_of c.args.parts.now) (blocks c.args.scope.now) c.draft.inside.signature c.parallels.new.signature c.draft.inside.rules.items
    c.draft.inside.definitions c.draft.inside.left c.draft.inside.right c.parallels.result c.in_err-found.field-0.0
    (record { signature = c.parallels.new.signature; rules = c.draft.inside.rules.items; definitions = c.draft.inside.definitions; left = c.draft.inside.left; right = c.draft.inside.right })
    c.in_err-found.was c.parallels.ensures)

pub returns-clause-found : goal.returns-clause-found
returns-clause-found c =
    rw (← c.draft.view_is)
    (body_told (λ v. v.items) (parts_of c.args.parts.now) (blocks c.args.scope.now) c.draft.inside.signature c.parallels.new.signature c.draft.inside.rules.items c.draft.inside.definitions
    c.draft.inside.left c.draft.inside.right c.in_ok-found.found c.joined_in_parallel.result c.in_ok-found.ensures c.joined_in_parallel.ensures)
