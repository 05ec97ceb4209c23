-- What shows of two terms without a unifier.
use Rattle.std.specs.Prelude.{◌≡◌, ℕ, List, [], ◌∷◌, Option, Some, None, ⊤}
use Rattle.dps_terms.specs.declared.borrowed.TermView.{TermView}
use Rattle.dps_terms.specs.Tree.{entry, Tree, leaf}
use Rattle.dps_terms.specs.Replace.{substitute, numbered}
use Rattle.dps_terms.specs.Views.{view_of}
use Rattle.dps_unify.specs.Unifier.{IsNotUnifiable}
use Rattle.dps_solver.specs.Scene.{Scene}
use Rattle.dps_solver.specs.Search.{Branch, entry_equation, with_bound}
use Rattle.dps_solver.specs.declared.scene.Target.{Target}
use Rattle.dps_search.specs.declared.branch.Branch.{Branch as CodeBranch}
use Rattle.dps_search.specs.declared.meeting.Meeting.{Meeting}
use Rattle.dps_search.specs.declared.meeting.Meeting.TheVariants.{Same, Never, Open}
use Rattle.dps_search.specs.Code.{branch_of}
use Rattle.dps_search.specs.Going.{entered}
use Rattle.dps_bindings.specs.Putting.{IsUnifiedBy}

-- terms with these roots are made equal by no substitution
abbrev pub AreApart : TermView → TermView → Type 0
AreApart first second = (t u : Tree) → view_of t ≡ first → view_of u ≡ second → IsNotUnifiable ((t, u) ∷ [])

-- what is said of the two terms, with theta put in
abbrev pub IsMeeting : (ℕ → Tree) → Tree → Tree → Meeting → Type 0
IsMeeting theta t u Same = t ≡ u
IsMeeting theta t u Never = IsNotUnifiable ((substitute theta t, substitute theta u) ∷ [])
IsMeeting theta t u Open = ⊤

-- the same of an entry's value and a target's term
abbrev pub IsMeetingOf : Scene → Branch → Target → ℕ → Meeting → Type 0
IsMeetingOf scene b z i m = IsMeeting b.theta (numbered scene.values i (leaf (entry i))) z.term m

-- The branch in which the unifier of an entry's value and the target's term is put, or none where there is no unifier.
pub record IsEntry (scene : Scene) (b : Branch) (z : Target) (rest : List Target) (i : ℕ) (c : Branch) : Type 0 where
  pub after : ℕ → Tree
  pub bound : List (ℕ × ℕ)
  pub unified : IsUnifiedBy b.levels (entry_equation scene b z i) b.theta after bound
  pub is : c ≡ with_bound bound (entered b z.name rest i after)

abbrev pub IsEnteredBy : Scene → Branch → Target → List Target → ℕ → Option CodeBranch → Type 0
IsEnteredBy scene b z rest i None = IsNotUnifiable (entry_equation scene b z i)
IsEnteredBy scene b z rest i (Some c) = IsEntry scene b z rest i (branch_of c)
