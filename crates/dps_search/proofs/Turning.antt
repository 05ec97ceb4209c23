-- What a task lists, by the next way.
use Rattle.std.proofs.Common.{◌≡◌, ℕ, ◌≤◌, List, [], ◌∷◌, ◌++◌, refl, sym, ◌∙◌, ap, subst, subst₂, arith}
use Rattle.std.specs.Prelude.{◌↔◌}
use Rattle.dps_terms.specs.Tree.{public, private, var, ax, entry, rigid, Tree, leaf, app}
use Rattle.dps_terms.specs.Replace.{substitute}
use Rattle.dps_unify.specs.Unifier.{IsNotUnifiable}
use Rattle.dps_solver.specs.Scene.{System, Scene, Ask}
use Rattle.dps_solver.specs.declared.scene.Target.{Target}
use Rattle.dps_solver.specs.Search.{GeneralSolution, Branch, Way, use_entry, entry_ways, ways, entry_equation, Leads, Lists, gives, drops, goes_on, ListsBy, no_way, leads, ends}
use Rattle.dps_solver.proofs.Once.{leads_once, unusable, at_targets, none_is_some}
use Rattle.dps_search.specs.Ways.{ways_behind}
use Rattle.dps_search.specs.Tasks.{ListsBehind, AreJoined, IsLater}

nothing : {X : Type 0} (xs : List X) → xs ++ [] ≡ xs
nothing [] = refl
nothing (x ∷ xs) = ap (λ ys. x ∷ ys) (nothing xs)

-- all ways
all_ways : (system : System) (l : ℕ) (t : Tree) → ways_behind system l t 0 ≡ ways system l t
all_ways system l (leaf (var w)) = refl
all_ways system l (leaf (public n)) = refl
all_ways system l (leaf (private n)) = nothing (entry_ways l 1 system.know.entries)
all_ways system l (leaf (ax j)) = nothing (entry_ways l 1 system.know.entries)
all_ways system l (leaf (entry i)) = nothing (entry_ways l 1 system.know.entries)
all_ways system l (leaf (rigid k)) = refl
all_ways system l (app f ts) = refl

-- a branch whose ways are all left
pub begins : (scene : Scene) (ask : Ask) (b : Branch) (list : List GeneralSolution) (moves : ℕ) → Lists scene ask b list moves ↔ ListsBehind scene ask b b.targets 0 list moves
begins scene ask b list moves = by_targets b.targets refl
  where
    onward : (z : Target) (rest : List Target) → b.targets ≡ z ∷ rest → Lists scene ask b list moves
        → ListsBy scene ask b z rest (ways scene.system z.level (substitute b.theta z.term)) list moves
    onward z rest e (gives f r l n) = absurd (none_is_some f e)
    onward z rest e (drops f r l n) = absurd (none_is_some f e)
    onward z rest e (goes_on f h) = at_targets scene ask b e f h

    by_targets : (ts : List Target) → b.targets ≡ ts → Lists scene ask b list moves ↔ ListsBehind scene ask b ts 0 list moves
    by_targets [] e = (λ h. h, λ h. h)
    by_targets (z ∷ rest) e = (
      λ h. subst (λ ws. ListsBy scene ask b z rest ws list moves) (sym (all_ways scene.system z.level (substitute b.theta z.term))) (onward z rest e h),
      λ h. goes_on e (subst (λ ws. ListsBy scene ask b z rest ws list moves) (all_ways scene.system z.level (substitute b.theta z.term)) h),
    )

module _ (scene : Scene) (ask : Ask) (b : Branch) (z : Target) (rest : List Target) where
  -- the first way leads to c
  led : (w : Way) (ws : List Way) (c : Branch) (list : List GeneralSolution) (moves : ℕ) → Leads scene b z rest w c → ListsBy scene ask b z rest (w ∷ ws) list moves
      → AreJoined (Lists scene ask c) (ListsBy scene ask b z rest ws) list moves
  led w ws c list moves g (leads {c = d} {here = here} {others = others} {first = first} {after = after} k h t l n) =
      let same : d ≡ c = leads_once scene b z rest k g in
      record { here = here; others = others; before = first; after = after; lists_first = subst (λ x. Lists scene ask x here first) same h; lists_second = t; list_is = l; moves_are = n }
  led w ws c list moves g (ends {i = i} u t n) = absurd (unusable scene b z rest i c g u)

  pub leads_on : (w : Way) (ws : List Way) (c : Branch) (list : List GeneralSolution) (moves : ℕ) → Leads scene b z rest w c
      → ListsBy scene ask b z rest (w ∷ ws) list moves ↔ AreJoined (Lists scene ask c) (ListsBy scene ask b z rest ws) list moves
  leads_on w ws c list moves g = (led w ws c list moves g, λ j. leads g j.lists_first j.lists_second j.list_is j.moves_are)

  nothing_after : (list others : List GeneralSolution) (moves after : ℕ) → ListsBy scene ask b z rest [] others after → (others ≡ []) × (after ≡ 0)
  nothing_after list others moves after no_way = (refl, refl)

  -- and is the last one
  pub leads_last : (w : Way) (c : Branch) (list : List GeneralSolution) (moves : ℕ) → Leads scene b z rest w c
      → ListsBy scene ask b z rest (w ∷ []) list moves ↔ IsLater 1 (Lists scene ask c) list moves
  leads_last w c list moves g = (
    λ h. let j = led w [] c list moves g h in
        let e = nothing_after list j.others moves j.after j.lists_second in
        let same : list ≡ j.here = j.list_is ∙ ap (λ xs. j.here ++ xs) e.0 ∙ alone j.here in
        record { left = j.before; lists_left = subst (λ xs. Lists scene ask c xs j.before) (sym same) j.lists_first; moves_are = omega (arith, j.moves_are, e.1) },
    λ k. leads g k.lists_left no_way (sym (alone list)) (omega (arith, k.moves_are)),
  )
    where
      alone : (xs : List GeneralSolution) → xs ++ [] ≡ xs
      alone [] = refl
      alone (x ∷ xs) = ap (λ ys. x ∷ ys) (alone xs)

  -- the first way can't be gone
  not_usable : (i : ℕ) (ws : List Way) (list : List GeneralSolution) (moves : ℕ) → IsNotUnifiable (entry_equation scene b z i)
      → ListsBy scene ask b z rest (use_entry i ∷ ws) list moves → IsLater 1 (ListsBy scene ask b z rest ws) list moves
  not_usable i ws list moves u (leads {c = c} g h t l n) = absurd (unusable scene b z rest i c g u)
  not_usable i ws list moves u (ends {after = after} v t n) = record { left = after; lists_left = t; moves_are = n }

  pub ends_here : (i : ℕ) (ws : List Way) (list : List GeneralSolution) (moves : ℕ) → IsNotUnifiable (entry_equation scene b z i)
      → ListsBy scene ask b z rest (use_entry i ∷ ws) list moves ↔ IsLater 1 (ListsBy scene ask b z rest ws) list moves
  ends_here i ws list moves u = (not_usable i ws list moves u, λ k. ends u k.lists_left k.moves_are)

  -- no way is left
  none_left : (list : List GeneralSolution) (moves : ℕ) → ListsBy scene ask b z rest [] list moves → (list ≡ []) × (moves ≡ 0)
  none_left list moves no_way = (refl, refl)

  pub over_here : (list : List GeneralSolution) (moves : ℕ) → ListsBy scene ask b z rest [] list moves ↔ ((list ≡ []) × (moves ≡ 0))
  over_here list moves = (none_left list moves, λ e. subst₂ (λ l m. ListsBy scene ask b z rest [] l m) (sym e.0) (sym e.1) no_way)

  -- each way takes a move
  pub takes_one : (w : Way) (ws : List Way) (list : List GeneralSolution) (moves : ℕ) → ListsBy scene ask b z rest (w ∷ ws) list moves → 1 ≤ moves
  takes_one w ws list moves (leads g h t l n) = omega (arith, n)
  takes_one w ws list moves (ends u t n) = omega (arith, n)
