-- What is still to be listed: tasks on an agenda.
use Rattle.std.specs.Prelude.{◌≡◌, ◌+◌, ◌≤◌, ◌↔◌, ℕ, List, [], ◌∷◌, ◌++◌, Bool, true, false, Option, Some, None, ⊤}
use Rattle.dps_terms.specs.Replace.{substitute}
use Rattle.dps_unify.specs.Unifier.{IsNotUnifiable}
use Rattle.dps_solver.specs.Scene.{System, Scene, Ask}
use Rattle.dps_solver.specs.Search.{GeneralSolution, Branch, use_entry, entry_equation, Leads, Lists, ListsBy}
use Rattle.dps_solver.specs.declared.scene.Target.{Target}
use Rattle.dps_search.specs.declared.scene.Mgs.{Mgs}
use Rattle.dps_search.specs.declared.branch.Branch.{Branch as CodeBranch}
use Rattle.dps_search.specs.declared.step.Step.{Step}
use Rattle.dps_search.specs.declared.step.Step.TheVariants.{Use}
use Rattle.dps_search.specs.declared.task.Task.{Task}
use Rattle.dps_search.specs.declared.task.Turn.{Turn}
use Rattle.dps_search.specs.declared.task.Turn.TheVariants.{Ended, Moved, Branched, Refused}
use Rattle.dps_search.specs.Code.{branch_of, solution_seen}
use Rattle.dps_search.specs.Ways.{ways_behind, IsNextStep}

-- the search from a branch with these targets lists this, where so many entries are passed for the first of them
abbrev pub ListsBehind : Scene → Ask → Branch → List Target → ℕ → List GeneralSolution → ℕ → Type 0
ListsBehind scene ask b [] passed list moves = Lists scene ask b list moves
ListsBehind scene ask b (z ∷ rest) passed list moves =
    ListsBy scene ask b z rest (ways_behind scene.system z.level (substitute b.theta z.term) passed) list moves

abbrev pub TaskLists : Scene → Ask → Task → List GeneralSolution → ℕ → Type 0
TaskLists scene ask t = ListsBehind scene ask (branch_of t.branch) t.branch.targets.items t.passed

abbrev pub solutions : Option Mgs → List GeneralSolution
solutions None = []
solutions (Some g) = solution_seen g ∷ []

-- one is listed before the other, after one move
pub record AreJoined (first second : List GeneralSolution → ℕ → Type 0) (list : List GeneralSolution) (moves : ℕ) : Type 0 where
  pub here : List GeneralSolution
  pub others : List GeneralSolution
  pub before : ℕ
  pub after : ℕ
  pub lists_first : first here before
  pub lists_second : second others after
  pub list_is : list ≡ here ++ others
  pub moves_are : moves ≡ 1 + before + after

-- the same is listed, after so many moves
pub record IsLater (count : ℕ) (lists : List GeneralSolution → ℕ → Type 0) (list : List GeneralSolution) (moves : ℕ) : Type 0 where
  pub left : ℕ
  pub lists_left : lists list left
  pub moves_are : moves ≡ count + left

-- the new task lists what is left of the old one after so many moves
abbrev pub AreLater : Scene → ℕ → Task → Task → Type 0
AreLater scene count old new =
    (ask : Ask) (list : List GeneralSolution) (moves : ℕ) → TaskLists scene ask old list moves ↔ IsLater count (TaskLists scene ask new) list moves

-- what the task lists, by what it came to
abbrev pub IsTurn : Scene → Ask → Bool → Task → Turn → Task → Type 0
IsTurn scene ask room old (Ended found) new =
    (list : List GeneralSolution) (moves : ℕ) → TaskLists scene ask old list moves ↔ ((list ≡ solutions found) × (moves ≡ 0))
IsTurn scene ask room old Moved new =
    (room ≡ true) × ((list : List GeneralSolution) (moves : ℕ) → TaskLists scene ask old list moves ↔ IsLater 1 (TaskLists scene ask new) list moves)
IsTurn scene ask room old (Branched b) new =
    (room ≡ true)
    × ((list : List GeneralSolution) (moves : ℕ)
    → TaskLists scene ask old list moves ↔ AreJoined (Lists scene ask (branch_of b)) (TaskLists scene ask new) list moves)
IsTurn scene ask room old Refused new =
    (room ≡ false) × ((list : List GeneralSolution) (moves : ℕ) → TaskLists scene ask old list moves → 1 ≤ moves)

-- the step is the next way for the first of these targets
abbrev pub IsNextOf : System → Branch → List Target → ℕ → Option Step → Type 0
IsNextOf system b [] passed step = ⊤
IsNextOf system b (z ∷ rest) passed step = IsNextStep system z.level (substitute b.theta z.term) passed step

-- the entry is the next way for the first of these targets, and its value and the term can't be made equal
abbrev pub IsNextApart : Scene → Branch → List Target → ℕ → ℕ → Type 0
IsNextApart scene b ts passed i =
    IsNextOf scene.system b ts passed (Some (Use i))
    × ((z : Target) (rest : List Target) → ts ≡ z ∷ rest → IsNotUnifiable (entry_equation scene b z i))

-- the branch in which the entry is used, or none where its value and the term can't be made equal
abbrev pub IsEntered : Scene → Branch → Target → List Target → ℕ → Option CodeBranch → Type 0
IsEntered scene b z rest i None = IsNotUnifiable (entry_equation scene b z i)
IsEntered scene b z rest i (Some c) = Leads scene b z rest (use_entry i) (branch_of c)

abbrev pub IsPassed : Scene → Branch → Target → List Target → ℕ → Turn → Type 0
IsPassed scene b z rest i (Ended found) = ⊥
IsPassed scene b z rest i Moved = IsNotUnifiable (entry_equation scene b z i)
IsPassed scene b z rest i (Branched c) = Leads scene b z rest (use_entry i) (branch_of c)
IsPassed scene b z rest i Refused = ⊥
