use Rattle.std.proofs.Common.{◌≡◌, ◌++◌, take}
use Rattle.std.specs.List.{zip}
use Rattle.dps_terms.specs.Seen.{seen}
use Rattle.dps_terms.specs.Views.{arguments}
use Rattle.dps_symeval.proofs.narrowing.with_fits.Given as goal

abbrev pub invariant-loop-index : goal.invariant-loop-index
invariant-loop-index l = l.all.items ≡ l.equations ++ take l.index (zip l.terms (arguments (seen l.left)))
