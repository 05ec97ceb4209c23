use Rattle.std.proofs.Common.{sym, subst}
use Rattle.dps_scopes.specs.Tuples.{KeepsTuples}
use Rattle.dps_scopes.proofs.Identifiers.{unreserved}
use Rattle.dps_scopes.proofs.Undeclared.{tuples_kept_name}
use Rattle.dps_scopes.proofs.signature.add_name.Goals.{in-Ok, in-Err-Memory}
use Rattle.dps_scopes.proofs.signature.add_name.Goals as goal

pub add_name-requires-clause-spelled : goal.add_name-requires-clause-spelled
add_name-requires-clause-spelled c = unreserved c.args.text.now c.requires.free

pub invariant_of-signature : goal.invariant_of-signature
invariant_of-signature c =
    elim c.match-add_name.branch [
      | in-Ok w ↦
          tuples_kept_name c.signature.inside.signature c.add_name.new.self (record { name = c.args.text.now; is_private = c.args.private }) c.requires.free w.in-Ok.ensures.ok c.signature.invariant
      | in-Err-Memory w ↦ subst KeepsTuples (sym w.in-Err-Memory.ensures.err) c.signature.invariant
    ]
