use Rattle.std.proofs.Common.{◌∙◌}
use Rattle.std.proofs.lemmas.Result.{on_ok_weaker}
use Rattle.dps_terms.specs.Bindings.{image}
use Rattle.dps_bindings.proofs.InTurn.{enough_put, root_put}
use Rattle.dps_bindings.proofs.pieces.put_root.Goals as goal

pub apply-requires-clause-there : goal.apply-requires-clause-there
apply-requires-clause-there c =
    enough_put (image c.args.later.now) c.args.root.first c.args.root.arity c.args.stack.now c.put_variables.new.stack c.in_ok-put_variables.ensures

pub returns : goal.returns
returns c =
    on_ok_weaker c.apply.result
    (λ e. e ∙ root_put (image c.args.later.now) c.args.root.sym c.args.root.first c.args.root.arity c.args.stack.now c.put_variables.new.stack c.in_ok-put_variables.ensures)
    c.apply.ensures.ok
