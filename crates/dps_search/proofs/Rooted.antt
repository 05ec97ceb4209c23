-- What the roots of terms say of them.
use Rattle.std.proofs.Common.{◌≡◌, ℕ, ◌+◌, List, [], ◌∷◌, ◌++◌, drop, Option, Some, None, refl, sym, ◌∙◌, ap}
use Rattle.std.specs.Prelude.{nat_eq, if◌then◌else◌}
use Rattle.std.proofs.lemmas.List.Elements.{All-head}
use Rattle.dps_terms.specs.declared.borrowed.TermView.{TermView}
use Rattle.dps_terms.specs.declared.borrowed.TermView.TheVariants.{App, Public, Private, Var, Ax, Entry, Rigid}
use Rattle.dps_terms.specs.Tree.{public, private, var, ax, entry, rigid, Tree, leaf, app}
use Rattle.dps_terms.specs.Replace.{substitute}
use Rattle.dps_terms.specs.Views.{view_of}
use Rattle.dps_bindings.proofs.Roots.{variable_is, root_stays}
use Rattle.dps_solver.specs.Scene.{System}
use Rattle.dps_solver.specs.Search.{Way, follow, use_entry, compose, entry_ways}
use Rattle.dps_search.specs.declared.step.Step.{Step}
use Rattle.dps_search.specs.declared.step.Step.TheVariants.{Follow, Use, Compose}
use Rattle.dps_search.specs.Ways.{ways_behind, IsNextStep}
use Rattle.dps_search.specs.Meetings.{AreApart}

-- roots that differ, of which none is a variable
pub apart : (first second : TermView) → ((n : ℕ) → first ≡ Var n → ⊥) → ((n : ℕ) → second ≡ Var n → ⊥) → (first ≡ second → ⊥) → AreApart first second
apart first second h k d = λ t u e f r all.
    d (sym e ∙ root_stays r t (λ n g. h n (sym e ∙ g)) ∙ ap view_of (All-head (λ p. substitute r p.0 ≡ substitute r p.1) (t, u) [] all) ∙ sym (root_stays r u (λ n g. k n (sym f ∙ g))) ∙ f)

-- the ways by the root
abbrev ways_by : System → ℕ → TermView → ℕ → List Way
ways_by system l (Var w) passed = follow ∷ []
ways_by system l (Public n) passed = entry_ways l (passed + 1) (drop passed system.know.entries) ++ compose ∷ []
ways_by system l (Rigid k) passed = entry_ways l (passed + 1) (drop passed system.know.entries) ++ (if nat_eq l system.m then compose ∷ [] else [])
ways_by system l (Private n) passed = entry_ways l (passed + 1) (drop passed system.know.entries) ++ []
ways_by system l (Ax j) passed = entry_ways l (passed + 1) (drop passed system.know.entries) ++ []
ways_by system l (Entry i) passed = entry_ways l (passed + 1) (drop passed system.know.entries) ++ []
ways_by system l (App f) passed = entry_ways l (passed + 1) (drop passed system.know.entries) ++ compose ∷ []

ways_are : (system : System) (l : ℕ) (t : Tree) (passed : ℕ) → ways_behind system l t passed ≡ ways_by system l (view_of t) passed
ways_are system l (leaf (var w)) passed = refl
ways_are system l (leaf (public n)) passed = refl
ways_are system l (leaf (rigid k)) passed = refl
ways_are system l (leaf (private n)) passed = refl
ways_are system l (leaf (ax j)) passed = refl
ways_are system l (leaf (entry i)) passed = refl
ways_are system l (app f ts) passed = refl

same_ways : (system : System) (l : ℕ) (t u : Tree) (passed : ℕ) → view_of t ≡ view_of u → ways_behind system l u passed ≡ ways_behind system l t passed
same_ways system l t u passed e = ways_are system l u passed ∙ ap (λ v. ways_by system l v passed) (sym e) ∙ sym (ways_are system l t passed)

pub next_by_root : (system : System) (l : ℕ) (t u : Tree) (passed : ℕ) (step : Option Step) → view_of t ≡ view_of u
    → IsNextStep system l t passed step → IsNextStep system l u passed step
next_by_root system l t u passed None e h = same_ways system l t u passed e ∙ h
next_by_root system l t u passed (Some (Follow w)) e h = variable_is u w (sym e ∙ ap view_of h)
next_by_root system l t u passed (Some (Use i)) e h = same_ways system l t u passed e ∙ h ∙ ap (λ ws. use_entry i ∷ ws) (sym (same_ways system l t u i e))
next_by_root system l t u passed (Some Compose) e h = same_ways system l t u passed e ∙ h
