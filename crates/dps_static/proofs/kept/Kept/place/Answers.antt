use Rattle.std.proofs.Common.{◌≡◌, nat_eq, Some, None, sym}
use Rattle.std.specs.Map.{lookup}
use Rattle.dps_terms.specs.Seen.{seen}
use Rattle.dps_terms.specs.Digest.{digest}
use Rattle.dps_static.proofs.Placing.{nothing_before, never_kept}
use Rattle.dps_static.proofs.kept.Kept.place.Goals as goal

pub place_from-requires : goal.place_from-requires
place_from-requires c =
    let there : lookup (nat_eq (digest (seen c.args.tree))) c.self.inside.places.entries ≡ Some c.in-Some.start.now = rw c.digest.ensures at (sym c.in-Some.ensures.value) in
    λ k l. (nothing_before c.self.inside.trees c.self.inside.places.entries (seen c.args.tree) c.in-Some.start.now k c.self.invariant.0 there l)

pub returns-in-None-clause-first : goal.returns-in-None-clause-first
returns-in-None-clause-first c =
    let none : lookup (nat_eq (digest (seen c.args.tree))) c.self.inside.places.entries ≡ None = rw c.digest.ensures at (sym c.in-None.ensures.value) in
    rw (← c.self.view_is) (never_kept c.self.inside.trees c.self.inside.places.entries (seen c.args.tree) c.self.invariant.0 none)
