-- A disequation that excludes the bindings of a listed solution is not matched.
use Rattle.std.proofs.Common.{◌≡◌, ℕ, ◌<◌, inl, inr, Some, None, sym, ◌∙◌, ap, arith, subst}
use Rattle.std.specs.Prelude.{◌≢◌}
use Rattle.dps_terms.specs.Tree.{var, Tree, leaf, StandsIn, itself}
use Rattle.dps_terms.specs.Replace.{substitute}
use Rattle.dps_unify.specs.Order.{level_of}
use Rattle.dps_unify.proofs.Trees.{in_leaf}
use Rattle.dps_unify.proofs.Unique.{was_variable}
use Rattle.dps_solver.specs.Scene.{Disequation, Scene, Ask}
use Rattle.dps_solver.specs.Solutions.{IsMatched}
use Rattle.dps_solver.specs.Search.{GeneralSolution, IsPlain}
use Rattle.dps_directions.specs.Valid.{IsValid, Fits}
use Rattle.dps_directions.specs.Shapes.{ExcludesBindings}
use Rattle.dps_directions.proofs.Invariant.{IsOpen}
use Rattle.dps_directions.proofs.Steps.{IsOutcome}
use Rattle.dps_directions.proofs.Lowering.{same_var, same_some}
use Rattle.dps_directions.proofs.Beginning.{all_in, levels_cases, level_in}
use Rattle.dps_directions.proofs.Outcomes.{binding_at, binding_else, free_in_binding, level_is_least}
use Rattle.dps_directions.proofs.Respecting.{contains_or_not}
use Rattle.dps_directions.proofs.AlongUnify.{is_variable_or_not}
use Rattle.dps_directions.proofs.Descending.{Descends}

module _ (names : ℕ → Type 0) (scene : Scene) (ask : Ask) (valid : IsValid names scene) (fits : Fits scene ask) (solution : GeneralSolution) (o : IsOutcome scene ask solution) where
  -- a new variable has a greater number than those of the scene
  pub is_above : (y k : ℕ) → IsOpen o.last y k → level_of scene.system.levels y ≡ None → (x l : ℕ) → level_of scene.system.levels x ≡ Some l → x < y
  is_above y k open' new x l e = elim (o.kept.fresh y k open') [
    | inl h ↦ let none : None ≡ Some h.0 = sym new ∙ h.1 in cc
    | inr h ↦ h x (level_in names scene ask valid fits x l e)
  ]

  -- one that a variable of the scene is bound to has a smaller level, which is that of a variable of the scene
  pub new_are_lower : Descends scene o.last → (x l y : ℕ) → level_of scene.system.levels x ≡ Some l → solution.bindings x ≡ leaf (var y)
      → level_of scene.system.levels y ≡ None → (v j : ℕ) × (level_of scene.system.levels v ≡ Some j) × StandsIn (var y) (solution.bindings v) × (j < l)
  new_are_lower descends x l y e bound new =
      let tree = sym (binding_at scene ask solution o x l e) ∙ bound in
      let there : StandsIn (var y) (o.last.trees x) = subst (λ t. StandsIn (var y) t) (sym tree) itself in
      let in_binding : StandsIn (var y) (solution.bindings x) = subst (λ t. StandsIn (var y) t) (sym bound) itself in
      let f = free_in_binding scene ask solution o x l y e there in
      let v = (level_is_least scene ask solution o x l y f.0 e in_binding f.1.0).1 in
      let h = descends x l y e tree in
      let level : f.0 ≡ h.0 = same_some f.0 h.0 (sym f.1.0 ∙ h.1) in
      let above : x < y = is_above y f.0 (inr f.1) new x l e in
      (v.0, v.1, v.2, v.3, elim h.2 [ inl i ↦ omega (arith, i, level, v.4) | inr i ↦ absurd (omega (arith, i.1, above)) ])

module _ (names : ℕ → Type 0) (scene : Scene) (ask : Ask) (valid : IsValid names scene) (fits : Fits scene ask) (solution : GeneralSolution) (o : IsOutcome scene ask solution)
    (descends : Descends scene o.last) (d : Disequation) (excludes : ExcludesBindings scene solution d) (matched : IsMatched d.free d.pairs) where
  abbrev r : ℕ → Tree
  r = matched.0

  -- a bound variable's tree is a new one, whose tree is the variable
  becomes : (x l : ℕ) → level_of scene.system.levels x ≡ Some l → solution.bindings x ≢ leaf (var x) → substitute r (solution.bindings x) ≡ leaf (var x)
  becomes x l e bound =
      all_in (λ (p : Tree × Tree). substitute r p.1 ≡ p.0) d.pairs (leaf (var x), solution.bindings x) matched.2 (excludes.pairs x l e bound)

  record IsNewFor (x : ℕ) : Type 0 where
    y : ℕ
    tree : solution.bindings x ≡ leaf (var y)
    new : level_of scene.system.levels y ≡ None
    back : r y ≡ leaf (var x)

  new_for : (x l : ℕ) → level_of scene.system.levels x ≡ Some l → solution.bindings x ≢ leaf (var x) → IsNewFor x
  new_for x l e bound =
      let v = was_variable r (solution.bindings x) x (becomes x l e bound) in
      let back : r v.0 ≡ leaf (var x) = sym (ap (substitute r) v.1) ∙ becomes x l e bound in
      elim (contains_or_not d.free v.0) [
        | inl c ↦ record { y = v.0; tree = v.1; new = excludes.free v.0 c; back = back }
        | inr n ↦ absurd (bound (v.1 ∙ sym (matched.1 v.0 n) ∙ back))
      ]

  -- so no other variable is bound to it
  only_one : (x v j y : ℕ) → level_of scene.system.levels v ≡ Some j → level_of scene.system.levels y ≡ None → r y ≡ leaf (var x)
      → StandsIn (var y) (solution.bindings v) → v ≡ x
  only_one x v j y e new back c = elim (is_variable_or_not (solution.bindings v) v) [
    | inl plain ↦
        let same = same_var y v (in_leaf (var v) (leaf (var y)) (subst (λ t. StandsIn (var y) t) plain c)) in
        let none : None ≡ Some j = sym new ∙ ap (level_of scene.system.levels) same ∙ e in cc
    | inr bound ↦
        let n = new_for v j e bound in
        let same = same_var y n.y (in_leaf (var n.y) (leaf (var y)) (subst (λ t. StandsIn (var y) t) n.tree c)) in
        same_var v x (sym n.back ∙ sym (ap r same) ∙ back)
  ]

  not_bound : (x l : ℕ) → level_of scene.system.levels x ≡ Some l → ¬ (solution.bindings x ≢ leaf (var x))
  not_bound x l e bound =
      let n = new_for x l e bound in
      let v = new_are_lower names scene ask valid fits solution o descends x l n.y e n.tree n.new in
      let same = only_one x v.0 v.1 n.y v.2 n.new n.back v.3 in
      let level : l ≡ v.1 = same_some l v.1 (sym e ∙ sym (ap (level_of scene.system.levels) same) ∙ v.2) in
      omega (arith, level, v.4)

  pub plain : IsPlain solution
  plain x = elim (levels_cases (level_of scene.system.levels x)) [
    | inl e ↦ binding_else scene ask solution o x e
    | inr e ↦ elim (is_variable_or_not (solution.bindings x) x) [ inl h ↦ h | inr h ↦ absurd (not_bound x e.0 e.1 h) ]
  ]
