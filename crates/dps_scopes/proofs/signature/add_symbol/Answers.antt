use Rattle.std.proofs.Common.{sym, subst, inl}
use Rattle.dps_scopes.specs.Tuples.{KeepsTuples}
use Rattle.dps_scopes.proofs.Identifiers.{unreserved}
use Rattle.dps_scopes.proofs.Undeclared.{tuples_kept_symbol}
use Rattle.dps_scopes.proofs.signature.add_symbol.Goals.{in-Ok, in-Err}
use Rattle.dps_scopes.proofs.signature.add_symbol.Goals as goal

pub push_symbol-requires-clause-spelled : goal.push_symbol-requires-clause-spelled
push_symbol-requires-clause-spelled c = inl (unreserved c.args.text.now c.requires.free)

pub invariant_of-signature : goal.invariant_of-signature
invariant_of-signature c =
    elim c.match-push_symbol.branch [
      | in-Ok w ↦
          tuples_kept_symbol c.signature.inside.signature c.push_symbol.new.signature (record { name = c.args.text.now; kind = c.args.kind; arity = c.args.arity }) c.requires.free
          w.in-Ok.ensures.ok c.signature.invariant
      | in-Err w ↦ subst KeepsTuples (sym w.in-Err.ensures.unchanged) c.signature.invariant
    ]
