-- The bindings of a listed solution in a node, and the numbers that their new variables get.
use Rattle.std.proofs.Common.{◌≡◌, ℕ, suc, ◌+◌, ◌<◌, ◌≤◌, List, [], ◌∷◌, ◌++◌, map, length, refl, sym, ◌∙◌, ap, subst, inl, inr, arith, cond, nat_eq, Bool, true, false, Some, None}
use Rattle.std.specs.Prelude.{◌⊎◌, Contains, slice_get, not}
use Rattle.std.specs.List.{flat_map}
use Rattle.std.proofs.lemmas.Bool.{cases_Bool, eqb-true, eq-eqb}
use Rattle.std.proofs.lemmas.Map.Views.{Contains-from_any}
use Rattle.dps_terms.specs.Tree.{var, Tree, leaf, StandsIn}
use Rattle.dps_terms.specs.Replace.{substitute}
use Rattle.dps_terms.specs.Variables.{occurrences, each_once}
use Rattle.dps_terms.specs.Kinds.{NoRigidName}
use Rattle.dps_unify.specs.Order.{level_of}
use Rattle.dps_unify.proofs.Trees.{in_leaf, variable_of_instance}
use Rattle.dps_know.specs.Know.{compositions}
use Rattle.dps_know.proofs.Listing.{in_left, in_right}
use Rattle.dps_solver.specs.Scene.{Disequation, Ask}
use Rattle.dps_solver.specs.Search.{GeneralSolution, entry_numbers, disequation_numbers, system_numbers}
use Rattle.dps_symeval.proofs.Listed.{contains_none, contains_cases, mapped, from_mapped, joined, from_joined, filtered, from_filtered}
use Rattle.dps_solver.proofs.Each.{contains_at}
use Rattle.dps_directions.specs.Shapes.{IsListedFor}
use Rattle.dps_directions.proofs.Beginning.{in_occurrences, levels_cases, level_number}
use Rattle.dps_directions.proofs.SceneCourse.{level_listed}
use Rattle.dps_directions.proofs.Outcomes.{binding_at, binding_else, free_in_binding}
use Rattle.dps_directions.proofs.Directed.{outcome_of}
use Rattle.dps_node.specs.Node.{SymbolicConfig, Node, label_trees, variables_of, system_of, scene_of}
use Rattle.dps_renewal.specs.Numbering.{is_among, counted_as, as_variable}
use Rattle.dps_node.specs.Splits.{bound_trees, new_variables, binding}
use Rattle.dps_renewal.proofs.EachOnce.{among_once}
use Rattle.dps_faithful.proofs.Lists.{among_true}
use Rattle.dps_faithful.proofs.Levels.{occurrence_stands, level_is_listed, listed_level, same_level}

-- a variable of the list gets the number of its place, and any other is left
pub counted_cases : (n : ℕ) (xs : List ℕ) (y : ℕ)
    → ((i : ℕ) × (slice_get xs i ≡ Some y) × (counted_as as_variable n xs y ≡ leaf (var (n + i)))) ⊎ ((¬ Contains xs y) × (counted_as as_variable n xs y ≡ leaf (var y)))
counted_cases n [] y = inr (contains_none y, refl)
counted_cases n (x ∷ xs) y = elim (cases_Bool (nat_eq y x)) [
  | inl e ↦
      let same : x ≡ y = sym (eqb-true y x e) in
      let number : n ≡ n + 0 = omega arith in
      inl (0, ap Some same, ap (λ b. cond b (leaf (var n)) (counted_as as_variable (n + 1) xs y)) e ∙ ap (λ k. leaf (var k)) number)
  | inr e ↦ elim (counted_cases (n + 1) xs y) [
    | inl h ↦
        let number : n + 1 + h.0 ≡ n + suc h.0 = omega arith in
        inl (suc h.0, h.1, ap (λ b. cond b (leaf (var n)) (counted_as as_variable (n + 1) xs y)) e ∙ h.2 ∙ ap (λ k. leaf (var k)) number)
    | inr h ↦ inr (
      λ c. elim (contains_cases x xs y c) [
        | inl d ↦ let q : true ≡ false = sym (eq-eqb y x d) ∙ e in cc
        | inr k ↦ h.0 k
      ],
      ap (λ b. cond b (leaf (var n)) (counted_as as_variable (n + 1) xs y)) e ∙ h.1,
    )
  ]
]

once_holds : (xs : List ℕ) (x : ℕ) → Contains xs x → Contains (each_once xs) x
once_holds xs x h = Contains-from_any (λ (j k : ℕ). eqb-true j k) x (each_once xs) (among_once x xs ∙ among_true xs x h)

holds_once : (xs : List ℕ) (x : ℕ) → Contains (each_once xs) x → Contains xs x
holds_once xs x h = Contains-from_any (λ (j k : ℕ). eqb-true j k) x xs (sym (among_once x xs) ∙ among_true (each_once xs) x h)

module _ (node : Node) (c : SymbolicConfig) (ask : Ask) (solution : GeneralSolution) (found : IsListedFor NoRigidName (scene_of node c) ask solution) where
  abbrev levels : List (ℕ × ℕ)
  levels = variables_of node

  abbrev numbers : List ℕ
  numbers = map (λ (p : ℕ × ℕ). p.0) levels

  -- what stands in a binding: a variable of the node that is not bound itself, or a new one
  pub record IsUnbound (y l : ℕ) : Type 0 where
    pub k : ℕ
    pub level : level_of levels y ≡ Some k
    pub low : k ≤ l
    pub itself : solution.bindings y ≡ leaf (var y)

  pub record IsNewVariable (y : ℕ) : Type 0 where
    pub no_level : level_of levels y ≡ None
    pub above : (x : ℕ) → Contains (system_numbers (system_of node)) x → x < y

  pub not_of_node : (x : ℕ) → level_of levels x ≡ None → solution.bindings x ≡ leaf (var x)
  not_of_node x e = binding_else (scene_of node c) ask solution (outcome_of NoRigidName (scene_of node c) ask solution found) x e

  pub in_binding : (x l y : ℕ) → level_of levels x ≡ Some l → StandsIn (var y) (solution.bindings x) → IsUnbound y l ⊎ IsNewVariable y
  in_binding x l y e h =
      let o = outcome_of NoRigidName (scene_of node c) ask solution found in
      let f = free_in_binding (scene_of node c) ask solution o x l y e (subst (λ t. StandsIn (var y) t) (binding_at (scene_of node c) ask solution o x l e) h) in
      elim (levels_cases (level_of levels y)) [
        | inr s ↦
            let same : s.0 ≡ f.0 = same_level o.last.levels y s.0 f.0 (o.kept.levels y s.0 s.1) f.1.0 in
            inl (record {
              k = s.0;
              level = s.1;
              low = omega (arith, same, f.2);
              itself = binding_at (scene_of node c) ask solution o y s.0 s.1 ∙ o.kept.unbound y s.0 s.1 f.1.1;
            })
        | inl none ↦ elim (o.kept.fresh y f.0 (inr f.1)) [
          | inl g ↦ absurd (let q : None ≡ Some g.0 = sym none ∙ g.1 in cc)
          | inr g ↦ inr (record { no_level = none; above = g })
        ]
      ]

  abbrev pub news : List ℕ
  news = new_variables node solution.bindings

  abbrev pub first : ℕ
  first = length node.levels + 1

  abbrev pub renumbered : ℕ → Tree
  renumbered = counted_as as_variable first news

  abbrev test : ℕ → Bool
  test y = not (is_among y numbers)

  pub is_new : (x l v : ℕ) → level_of levels x ≡ Some l → StandsIn (var v) (solution.bindings x) → level_of levels v ≡ None → Contains news v
  is_new x l v e h none =
      filtered test (each_once (flat_map occurrences (bound_trees node solution.bindings))) v
      (once_holds (flat_map occurrences (bound_trees node solution.bindings)) v
      (joined occurrences (bound_trees node solution.bindings) (solution.bindings x) v
      (mapped (λ (p : ℕ × ℕ). solution.bindings p.0) levels (x, l) (level_is_listed levels x l e)) (in_occurrences v (solution.bindings x) h)))
      (elim (cases_Bool (is_among v numbers)) [
        | inl t ↦ absurd (let k = level_listed levels v (Contains-from_any (λ (j k : ℕ). eqb-true j k) v numbers t) in let q : None ≡ Some k.0 = sym none ∙ k.1 in cc)
        | inr f ↦ ap not f
      ])

  -- a new variable stands in a binding
  pub record ComesWith (v : ℕ) : Type 0 where
    pub x : ℕ
    pub l : ℕ
    pub level : level_of levels x ≡ Some l
    pub stands : StandsIn (var v) (solution.bindings x)
    pub no_level : level_of levels v ≡ None

  pub comes_with : (v : ℕ) → Contains news v → ComesWith v
  comes_with v h =
      let f = from_filtered test (each_once (flat_map occurrences (bound_trees node solution.bindings))) v h in
      let t = from_joined occurrences (bound_trees node solution.bindings) v (holds_once (flat_map occurrences (bound_trees node solution.bindings)) v f.0) in
      let p = from_mapped (λ (p : ℕ × ℕ). solution.bindings p.0) levels t.0 t.1 in
      record {
        x = p.0.0;
        l = p.0.1;
        level = listed_level node p.0 p.1;
        stands = subst (λ u. StandsIn (var v) u) p.2 (occurrence_stands t.0 v t.2);
        no_level = elim (levels_cases (level_of levels v)) [
          | inl none ↦ none
          | inr s ↦ absurd (refused f.1 (among_true numbers v (level_number levels v s.0 s.1)))
        ];
      }
    where
      refused : not (is_among v numbers) ≡ true → is_among v numbers ≡ true → ⊥
      refused e d = let q : false ≡ true = sym (ap not d) ∙ e in cc

  -- what stands in a binding with its new numbers
  pub record IsOld (w l : ℕ) : Type 0 where
    pub k : ℕ
    pub level : level_of levels w ≡ Some k
    pub low : k ≤ l
    pub itself : binding node solution.bindings w ≡ leaf (var w)

  pub record IsRenumbered (x w : ℕ) : Type 0 where
    pub i : ℕ
    pub number : w ≡ first + i
    pub v : ℕ
    pub place : slice_get news i ≡ Some v
    pub becomes : renumbered v ≡ leaf (var w)
    pub stands : StandsIn (var v) (solution.bindings x)

  same_variable : (j k : ℕ) → StandsIn (var j) (leaf (var k)) → j ≡ k
  same_variable j k h = let e : leaf (var j) ≡ leaf (var k) = in_leaf (var k) (leaf (var j)) h in cc

  pub in_new_binding : (x l w : ℕ) → level_of levels x ≡ Some l → StandsIn (var w) (binding node solution.bindings x) → IsOld w l ⊎ IsRenumbered x w
  in_new_binding x l w e h =
      let v = variable_of_instance renumbered w (solution.bindings x) h in
      elim (counted_cases first news v.0) [
        | inl i ↦
            let number : w ≡ first + i.0 = same_variable w (first + i.0) (subst (λ t. StandsIn (var w) t) i.2 v.2) in
            inr (record { i = i.0; number = number; v = v.0; place = i.1; becomes = i.2 ∙ ap (λ k. leaf (var k)) (sym number); stands = v.1 })
        | inr left ↦
            let same : v.0 ≡ w = sym (same_variable w v.0 (subst (λ t. StandsIn (var w) t) left.1 v.2)) in
            elim (in_binding x l v.0 e v.1) [
              | inr new ↦ absurd (left.0 (is_new x l v.0 e v.1 new.no_level))
              | inl old ↦ inl (subst (λ y. IsOld y l) same (record { k = old.k; level = old.level; low = old.low; itself = ap (substitute renumbered) old.itself ∙ left.1 }))
            ]
      ]

  -- a free variable of a disequation is none of them
  pub in_system : (d : Disequation) (x : ℕ) → Contains node.disequations d → Contains d.free x → Contains (system_numbers (system_of node)) x
  in_system d x h k =
      in_right x (map (λ (p : ℕ × ℕ). p.0) levels) _ (in_right x (flat_map entry_numbers node.know.entries) _ (in_right x (flat_map occurrences (compositions node.know)) _
      (in_right x (flat_map occurrences node.know.handles) _ (in_right x (flat_map occurrences (label_trees node)) (flat_map disequation_numbers node.disequations)
      (joined disequation_numbers node.disequations d x h (in_left x d.free (flat_map (λ (p : Tree × Tree). occurrences p.0 ++ occurrences p.1) d.pairs) k))))))

  pub free_stays : (d : Disequation) (x : ℕ) → Contains node.disequations d → Contains d.free x → level_of levels x ≡ None → binding node solution.bindings x ≡ leaf (var x)
  free_stays d x h k none = ap (substitute renumbered) (not_of_node x none) ∙ at
    where
      at : renumbered x ≡ leaf (var x)
      at = elim (counted_cases first news x) [
        | inr left ↦ left.1
        | inl i ↦ absurd (
            let w = comes_with x (contains_at news i.0 x i.1) in
            elim (in_binding w.x w.l x w.level w.stands) [
              | inl old ↦ let q : None ≡ Some old.k = sym none ∙ old.level in cc
              | inr new ↦ let below = new.above x (in_system d x h k) in omega (arith, below)
            ])
      ]
