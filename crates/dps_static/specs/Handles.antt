-- The tests that come of two ways over the messages of a frame.
use Rattle.std.specs.Prelude.{ℕ, zero, suc, List, [], ◌∷◌, ◌++◌}
use Rattle.dps_terms.specs.Tree.{ax, Tree, leaf}
use Rattle.dps_terms.specs.Replace.{put_entries}
use Rattle.dps_static.specs.declared.Test.{Test}
use Rattle.dps_static.specs.declared.Test.TheVariants.{Equal}
use Rattle.dps_static.specs.declared.follow.TwoWays.{TwoWays}

-- the recipes `ax1` to `axm`
abbrev pub handles : ℕ → List Tree
handles zero = []
handles (suc m) = handles m ++ leaf (ax (suc m)) ∷ []

-- whether the recipes that the two ways make of the kept ones have one value
abbrev pub equality : List Tree → TwoWays → Test
equality recipes ways = Equal (put_entries recipes ways.one) (put_entries recipes ways.other)
