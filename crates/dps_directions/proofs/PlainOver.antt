-- Terms that a plain solution puts for variables of rules.
use Rattle.std.proofs.Common.{◌≡◌, ℕ, List, [], ◌∷◌, ◌⊎◌, inl, inr, sym, ◌∙◌, ap, subst, Contains}
use Rattle.dps_terms.specs.Tree.{var, Tree, leaf, StandsIn}
use Rattle.dps_terms.specs.Replace.{substitute, variables_to}
use Rattle.dps_terms.proofs.Replacing.{keeps_subterms}
use Rattle.dps_terms.proofs.Subterms.{nested}
use Rattle.dps_unify.specs.Order.{level_of}
use Rattle.dps_unify.proofs.Trees.{in_leaf, variable_of_instance}
use Rattle.dps_know.proofs.Listing.{in_cons, in_head, in_tail, in_none}
use Rattle.dps_solver.specs.Scene.{Scene, Ask}
use Rattle.dps_solver.specs.Search.{GeneralSolution, IsPlain}
use Rattle.dps_directions.specs.Shapes.{HoldsOnly, IsOfScene, AreSolvedInTurn}
use Rattle.dps_directions.proofs.Steps.{IsOutcome}
use Rattle.dps_directions.proofs.Lowering.{same_var}
use Rattle.dps_directions.proofs.Beginning.{all_in}
use Rattle.dps_directions.proofs.Outcomes.{theta_at, unbound_at}

-- theta makes each pair equal, and puts terms over these variables for what is known
module _ (theta : ℕ → Tree) (good : ℕ → Type 0) where
  good_under : (known : ℕ → Type 0) (t : Tree) → HoldsOnly known t → ((x : ℕ) → known x → HoldsOnly good (theta x)) → (y : ℕ) → StandsIn (var y) (substitute theta t) → good y
  good_under known t holds h y c = let v = variable_of_instance theta y t c in h v.0 (holds v.0 v.1) y v.2

  good_in_turn : (ps : List (Tree × Tree)) (known : ℕ → Type 0) → AreSolvedInTurn known ps → ((p : Tree × Tree) → Contains ps p → substitute theta p.0 ≡ substitute theta p.1)
      → ((x : ℕ) → known x → HoldsOnly good (theta x)) → (p : Tree × Tree) → Contains ps p → (x : ℕ) → StandsIn (var x) p.1 → HoldsOnly good (theta x)
  good_in_turn [] known turn solved h p c x k y m = absurd (in_none p c)
  good_in_turn (q ∷ ps) known turn solved h p c x k y m = elim (in_cons p q ps c) [
    | inl e ↦ right x (subst (λ (v : Tree × Tree). StandsIn (var x) v.1) e k) y m
    | inr j ↦
        good_in_turn ps (λ v. known v ⊎ StandsIn (var v) q.1) turn.1 (λ v i. solved v (in_tail v q ps i))
        (λ v i. elim i [ inl a ↦ h v a | inr a ↦ right v a ]) p j x k y m
  ]
    where
      right : (v : ℕ) → StandsIn (var v) q.1 → HoldsOnly good (theta v)
      right v i w n =
          good_under known q.0 turn.0 h w
          (subst (λ t. StandsIn (var w) t) (sym (solved q (in_head q ps))) (nested n (keeps_subterms (variables_to theta) i)))

module _ (scene : Scene) (ask : Ask) (solution : GeneralSolution) (o : IsOutcome scene ask solution) (plain : IsPlain solution) where
  pub over_scene : AreSolvedInTurn (IsOfScene scene) ask.equations → (p : Tree × Tree) → Contains ask.equations p → (x : ℕ) → StandsIn (var x) p.1
      → HoldsOnly (IsOfScene scene) (solution.theta x)
  over_scene turn p c x k y m =
      good_in_turn o.last.theta (IsOfScene scene) ask.equations (IsOfScene scene) turn
      (λ q i. all_in (λ (v : Tree × Tree). substitute o.last.theta v.0 ≡ substitute o.last.theta v.1) ask.equations q o.solved i)
      known p c x k y (subst (λ t. StandsIn (var y) t) (theta_at scene ask solution o x) m)
    where
      known : (v : ℕ) → IsOfScene scene v → HoldsOnly (IsOfScene scene) (o.last.theta v)
      known v h w n =
          let fixed : o.last.theta v ≡ leaf (var v) = sym (theta_at scene ask solution o v) ∙ unbound_at scene ask solution o plain v h.0 h.1 in
          let same = same_var w v (in_leaf (var v) (leaf (var w)) (subst (λ t. StandsIn (var w) t) fixed n)) in
          (h.0, ap (level_of scene.system.levels) same ∙ h.1)
