-- Agendas: what is still to be listed, the first task first.
use Rattle.std.specs.Prelude.{◌≡◌, ◌+◌, ◌-◌, ◌*◌, ◌≤◌, ◌↔◌, ℕ, List, [], ◌∷◌, ◌++◌, map, Option, Some, None}
use Rattle.dps_solver.specs.Scene.{Scene, Ask}
use Rattle.dps_solver.specs.Search.{GeneralSolution, Lists, Finds}
use Rattle.dps_search.specs.declared.scene.Mgs.{Mgs}
use Rattle.dps_search.specs.declared.scene.Steps.{Steps}
use Rattle.dps_search.specs.declared.branch.Branch.{Branch as CodeBranch}
use Rattle.dps_search.specs.declared.task.Task.{Task}
use Rattle.dps_search.specs.Code.{branch_of, solution_seen}
use Rattle.dps_search.specs.Tasks.{TaskLists}

-- the tasks list this, one after the other, with this number of moves in all
pub data AgendaLists (scene : Scene) (ask : Ask) : List Task → List GeneralSolution → ℕ → Type 0 where
  nothing : {list : List GeneralSolution} {moves : ℕ} → list ≡ [] → moves ≡ 0 → AgendaLists scene ask [] list moves
  first :
      {t : Task} {ts : List Task} {list others : List GeneralSolution} {moves after : ℕ} (here : List GeneralSolution) (before : ℕ)
      → TaskLists scene ask t here before
      → AgendaLists scene ask ts others after
      → list ≡ here ++ others
      → moves ≡ before + after
      → AgendaLists scene ask (t ∷ ts) list moves

-- this is listed already, with so many moves, and the tasks list the rest
pub record IsLeft (scene : Scene) (ask : Ask) (tasks : List Task) (listed : List GeneralSolution) (moved : ℕ) (list : List GeneralSolution) (moves : ℕ) : Type 0 where
  pub rest : List GeneralSolution
  pub after : ℕ
  pub lists : AgendaLists scene ask tasks rest after
  pub list_is : list ≡ listed ++ rest
  pub moves_are : moves ≡ moved + after

-- the first branch lists what the search finds; without one it finds nothing, in no move
abbrev pub IsStart : Scene → Ask → Option CodeBranch → Type 0
IsStart scene ask None = (list : List GeneralSolution) (moves : ℕ) → Finds scene ask list moves ↔ ((list ≡ []) × (moves ≡ 0))
IsStart scene ask (Some b) = (list : List GeneralSolution) (moves : ℕ) → Finds scene ask list moves ↔ Lists scene ask (branch_of b) list moves

-- the tasks list what the search finds
abbrev pub IsBegin : Scene → Ask → List Task → Type 0
IsBegin scene ask tasks = (list : List GeneralSolution) (moves : ℕ) → Finds scene ask list moves ↔ AgendaLists scene ask tasks list moves

-- what is listed by the old tasks is found, with so many moves, or listed by the new ones
pub record IsAdvance (scene : Scene) (ask : Ask) (old : List Task) (found : List Mgs) (new : List Task) (now : List Mgs) (moved : ℕ) : Type 0 where
  pub more : List Mgs
  pub now_is : now ≡ found ++ more
  pub lists :
      (list : List GeneralSolution) (moves : ℕ)
      → AgendaLists scene ask old list moves ↔ IsLeft scene ask new (map solution_seen more) moved list moves

-- whatever the task lists takes a move
abbrev pub TakesMove : Scene → Ask → Task → Type 0
TakesMove scene ask t = (list : List GeneralSolution) (moves : ℕ) → TaskLists scene ask t list moves → 1 ≤ moves

-- twice the number of moves that are left
abbrev pub left_of : Steps → ℕ
left_of steps = 2 * (steps.budget - steps.used)
