-- Recipes and their values in pairs.
use Rattle.std.specs.Prelude.{◌≡◌, List, map}
use Rattle.dps_terms.specs.Tree.{Tree}

pub record ArePairsOf (recipes values : List Tree) (pairs : List (Tree × Tree)) : Type 0 where
  pub recipes_are : map (λ pair. pair.0) pairs ≡ recipes
  pub values_are : map (λ pair. pair.1) pairs ≡ values
