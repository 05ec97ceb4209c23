-- Values of several recipes.
use Rattle.std.specs.Prelude.{◌≡◌, List, ◌∷◌, length, take, drop, map}
use Rattle.dps_terms.specs.Tree.{Tree, Trees, trees}
use Rattle.dps_terms.specs.Replace.{in_frame}
use Rattle.dps_terms.specs.Views.{arguments}
use Rattle.dps_theory.specs.Theory.{Theory}
use Rattle.dps_theory.specs.Evaluation.{EvaluateAll}
use Rattle.dps_theory.specs.Frames.{HasValue, Succeeds}

-- the recipes have these values in the frame
abbrev pub HaveValues : Theory → List Tree → List Tree → Trees → Type 0
HaveValues theory frame recipes vs = EvaluateAll theory (trees (map (in_frame frame) recipes)) vs

-- The recipe's value took the place of the trees in front, as many as its arguments, where these are the values of its
-- arguments.
pub record PutsValue (theory : Theory) (frame : List Tree) (recipe : Tree) (old new : List Tree) : Type 0 where
  pub value : Tree
  pub put : new ≡ value ∷ drop (length (arguments recipe)) old
  pub is : HaveValues theory frame (arguments recipe) (trees (take (length (arguments recipe)) old)) → HasValue theory frame recipe value

-- where the trees in front are the values of the recipe's arguments, the recipe has none
abbrev pub PutsNone : Theory → List Tree → Tree → List Tree → Type 0
PutsNone theory frame recipe old = HaveValues theory frame (arguments recipe) (trees (take (length (arguments recipe)) old)) → ¬ Succeeds theory frame recipe
