-- Two terms that need no unifier.
use Rattle.std.proofs.Common.{◌≡◌, ℕ, List, [], ◌∷◌, drop, Option, Some, None, refl, sym, ap, get_or, arith}
use Rattle.std.proofs.lemmas.List.Elements.{All-nil, All-cons}
use Rattle.dps_terms.specs.Tree.{var, entry, Tree, leaf}
use Rattle.dps_terms.specs.Replace.{substitute, numbered}
use Rattle.dps_terms.specs.Bindings.{bound, image}
use Rattle.dps_unify.specs.Unifier.{IsMgu, IsNotUnifiable}
use Rattle.dps_unify.proofs.Trees.{substitute_itself}
use Rattle.dps_know.proofs.Listing.{in_none}
use Rattle.dps_solver.specs.Scene.{Scene}
use Rattle.dps_solver.specs.Search.{Branch, AreNewlyBound, use_entry, entry_equation, Leads}
use Rattle.dps_solver.specs.declared.scene.Target.{Target}
use Rattle.dps_search.specs.Going.{entered}
use Rattle.dps_bindings.specs.Putting.{IsUnifiedBy}
use Rattle.dps_search.specs.declared.branch.Branch.{Branch as CodeBranch}
use Rattle.dps_search.specs.Code.{branch_of}
use Rattle.dps_search.specs.Meetings.{IsEnteredBy}
use Rattle.dps_search.specs.Tasks.{IsEntered}
use Rattle.dps_search.proofs.Turns.{entered_leads, entered_not}

-- nothing has to be put for variables where the two are equal
nothing_bound : (n : ℕ) (t : Tree) → bound [] n ≡ Some t → ⊥
nothing_bound n t e = let d : (let o : Option Tree = None in o) ≡ Some t = e in cc

mgu_of_same : (levels : List (ℕ × ℕ)) (t u : Tree) → t ≡ u → IsMgu levels ((t, u) ∷ []) []
mgu_of_same levels t u e = record {
  unifies = All-cons (λ p. substitute (image []) p.0 ≡ substitute (image []) p.1) (t, u) [] (ap (substitute (image [])) e) (All-nil (λ p. substitute (image []) p.0 ≡ substitute (image []) p.1));
  general = λ r h n. refl;
  idempotent = λ n. refl;
  least = λ x y h. absurd (nothing_bound x (leaf (var y)) h);
  binds = λ n v h. absurd (nothing_bound n v h);
  holds = λ n v h m s. absurd (nothing_bound n v h);
}

none_newly : (levels : List (ℕ × ℕ)) (theta : ℕ → Tree) → AreNewlyBound levels theta theta []
none_newly levels theta = record {
  ascending = λ i j d l m. absurd (omega (arith, m));
  those = λ p. (λ c. absurd (in_none p c), λ k. absurd (k.2 k.1));
}

unified_same : (levels : List (ℕ × ℕ)) (theta : ℕ → Tree) (t u : Tree) → t ≡ u → IsUnifiedBy levels ((t, u) ∷ []) theta theta []
unified_same levels theta t u e = record {
  unifier = [];
  is = mgu_of_same levels t u e;
  becomes = λ i x. sym (substitute_itself (theta x)) i;
  newly = none_newly levels theta;
}

-- an entry for the first target
module _ (scene : Scene) (b : Branch) (target z : Target) (ts rest : List Target) (i : ℕ) (some : ts ≡ z ∷ rest) (at : target ≡ get_or ts 0 target) where
  pub same_leads : (c : Branch) → numbered scene.values i (leaf (entry i)) ≡ target.term → c ≡ entered b target.name (drop 1 ts) i b.theta → Leads scene b z rest (use_entry i) c
  same_leads c e is =
      entered_leads scene b target z ts rest i some at (entry_equation scene b target i) b.theta [] c refl
      (unified_same b.levels b.theta (substitute b.theta (numbered scene.values i (leaf (entry i)))) (substitute b.theta target.term) (ap (substitute b.theta) e)) is

  pub never_entered : IsNotUnifiable (entry_equation scene b target i) → IsNotUnifiable (entry_equation scene b z i)
  never_entered h = entered_not scene b target z ts rest i some at (entry_equation scene b target i) refl h

  pub entered_by : (o : Option CodeBranch) → IsEnteredBy scene b target (drop 1 ts) i o → IsEntered scene b z rest i o
  entered_by None h = never_entered h
  entered_by (Some c) h = entered_leads scene b target z ts rest i some at (entry_equation scene b target i) h.after h.bound (branch_of c) refl h.unified h.is
