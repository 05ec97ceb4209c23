-- What a reader expects of the search, each stated as one fact.
use Rattle.std.specs.Prelude.{◌≡◌, ℕ, List}
use Rattle.dps_solver.specs.Scene.{Scene, Ask}
use Rattle.dps_solver.specs.Search.{GeneralSolution, Finds}

-- the search lists one list of solutions, in one order, with one number of moves
abbrev pub SearchIsDetermined : Type 0
SearchIsDetermined =
    (scene : Scene) (ask : Ask) (list other : List GeneralSolution) (moves count : ℕ)
    → Finds scene ask list moves → Finds scene ask other count → (list ≡ other) × (moves ≡ count)
