use Rattle.std.proofs.Common.{◌≡◌, ℕ, ◌<◌, ◌≤◌, List, slice_get, Some}
use Rattle.std.specs.Prelude.{All, Contains}
use Rattle.dps_terms.specs.Tree.{Tree}
use Rattle.dps_terms.specs.Seen.{seen}
use Rattle.dps_static.specs.Binding.{BindsParts}
use Rattle.dps_static.proofs.Finding.{IsListed}
use Rattle.dps_static.proofs.cover.entries.Given as goal

abbrev pub invariant-loop-place : goal.invariant-loop-place
invariant-loop-place l = record {
  listed : (k : ℕ) → k < l.place → l.from ≤ k → (t : Tree) → slice_get l.kept k ≡ Some t → (s : List (ℕ × Tree)) → Contains l.start s → IsListed l.free (seen l.pattern) l.found.items s t;
  parts : All (BindsParts l.kept l.free) l.found.items;
}
