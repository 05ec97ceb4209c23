use Rattle.dps_scopes.proofs.Listing.{IsListing}
use Rattle.dps_scopes.proofs.definitions.Definitions.into_list.Given as goal

abbrev pub invariant-loop-name : goal.invariant-loop-name
invariant-loop-name l = IsListing l.initial.name-iterator l.name-iterator l.found.items
