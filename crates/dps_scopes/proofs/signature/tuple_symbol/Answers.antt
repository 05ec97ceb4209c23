use Rattle.std.proofs.Common.{sym, subst}
use Rattle.dps_scopes.specs.Tuples.{KeepsTuples}
use Rattle.dps_scopes.proofs.Undeclared.{tuples_kept_tuple}
use Rattle.dps_scopes.proofs.signature.tuple_symbol.Goals.{in-Ok, in-Err}
use Rattle.dps_scopes.proofs.signature.tuple_symbol.Goals as goal

pub invariant_of-signature : goal.invariant_of-signature
invariant_of-signature c =
    elim c.match-add_tuple.branch [
      | in-Ok w ↦ tuples_kept_tuple c.signature.inside.signature c.add_tuple.new.signature c.args.length w.in-Ok.ensures.ok c.signature.invariant
      | in-Err w ↦ subst KeepsTuples (sym w.in-Err.ensures.unchanged) c.signature.invariant
    ]
