-- Lists of counterparts that behave as the kept trees do.
use Rattle.std.specs.Prelude.{◌≡◌, ℕ, List, length, slice_get, Some}
use Rattle.dps_terms.specs.Tree.{Tree}
use Rattle.dps_terms.specs.Replace.{put_entries}
use Rattle.dps_static.specs.Ways.{IsOpenWay, Builds}
use Rattle.dps_static.specs.declared.follow.TwoWays.{TwoWays}

-- what two ways build alike from the kept trees they build alike from the counterparts, the i-th for the i-th
pub record Follows (kept counterparts : List Tree) : Type 0 where
  pub stays :
      (one other : Tree) → IsOpenWay (length kept) one → IsOpenWay (length kept) other
      → put_entries kept one ≡ put_entries kept other
      → put_entries counterparts one ≡ put_entries counterparts other

-- two ways build one kept tree, and two trees from the counterparts
pub record IsDifference (kept counterparts : List Tree) (ways : TwoWays) : Type 0 where
  pub place : ℕ
  pub tree : Tree
  pub is_kept : slice_get kept place ≡ Some tree
  pub one_builds : Builds kept tree ways.one
  pub other_builds : Builds kept tree ways.other
  pub differ : ¬ (put_entries counterparts ways.one ≡ put_entries counterparts ways.other)
