use Rattle.std.proofs.Common.{◌≡◌, ◌<◌, ℕ, Some}
use Rattle.std.specs.Prelude.{slice_get}
use Rattle.dps_signature.specs.Signature.{Symbol}
use Rattle.dps_tree.proofs.Constructors.{Builds}
use Rattle.dps_tree.proofs.plain.has_constructors_alone.Given as goal

abbrev pub invariant-loop-number : goal.invariant-loop-number
invariant-loop-number l = (j : ℕ) → j < l.number → (s : Symbol) → slice_get l.signature.symbols j ≡ Some s → Builds s
