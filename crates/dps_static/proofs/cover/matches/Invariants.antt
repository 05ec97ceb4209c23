use Rattle.std.proofs.Common.{◌≡◌, ℕ, ◌<◌, List, slice_get, Some}
use Rattle.std.specs.Prelude.{Contains}
use Rattle.dps_terms.specs.Tree.{Tree}
use Rattle.dps_terms.specs.Seen.{seen}
use Rattle.dps_static.specs.Binding.{IsMatchOf}
use Rattle.dps_static.proofs.Finding.{IsListed}
use Rattle.dps_static.proofs.cover.matches.Given as goal

abbrev pub invariant-loop-by : goal.invariant-loop-by
invariant-loop-by l = record {
  all : (j : ℕ) → j < l.by-index → (s : List (ℕ × Tree)) → slice_get l.start j ≡ Some s → IsListed l.free (seen l.pattern) l.found.items s (seen l.tree);
  only : (q : List (ℕ × Tree)) → Contains l.found.items q → IsMatchOf l.free (seen l.pattern) (seen l.tree) l.start q;
}
