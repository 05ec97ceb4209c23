use Rattle.std.specs.Prelude.{reverse}
use Rattle.dps_terms.specs.Seen.{seen}
use Rattle.dps_unify.specs.Visits.{IsVisiting}
use Rattle.dps_unify.proofs.reaching.reaches.Given as goal

abbrev pub invariant-loop : goal.invariant-loop
invariant-loop l = IsVisiting l.bindings l.variable (seen l.term) (reverse l.visits.items) l.passed.keys
