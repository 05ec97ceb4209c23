-- The start, the turns and the end, on an agenda that is kept backwards.
use Rattle.std.proofs.Common.{◌≡◌, ℕ, ◌+◌, ◌-◌, ◌≤◌, Bool, List, [], ◌∷◌, ◌++◌, length, map, Option, Some, None, refl, sym, ◌∙◌, ap, subst, subst₂, arith}
use Rattle.std.specs.Prelude.{◌↔◌, reverse}
use Rattle.dps_terms.specs.Tree.{Tree}
use Rattle.dps_terms.specs.Bindings.{image}
use Rattle.dps_unify.specs.Unifier.{IsNotUnifiable}
use Rattle.dps_solver.specs.Scene.{Scene, Ask}
use Rattle.dps_solver.specs.Solutions.{identity}
use Rattle.dps_solver.specs.Search.{GeneralSolution, Branch, with_bound, unbound, Lists, Finds, IsFoundWithin, IsSpentWithin}
use Rattle.dps_search.specs.declared.scene.Mgs.{Mgs}
use Rattle.dps_search.specs.declared.branch.Branch.{Branch as CodeBranch}
use Rattle.dps_search.specs.declared.task.Task.{Task}
use Rattle.dps_search.specs.declared.task.Turn.{Turn}
use Rattle.dps_search.specs.declared.task.Turn.TheVariants.{Ended, Moved, Branched}
use Rattle.dps_search.specs.Code.{solution_seen}
use Rattle.dps_bindings.specs.Putting.{IsUnifiedBy}
use Rattle.dps_search.specs.Tasks.{AreLater, IsTurn}
use Rattle.dps_search.specs.Agenda.{IsStart, IsBegin, IsAdvance, TakesMove}
use Rattle.dps_search.proofs.Agendas.{start_on, no_start, begin_none, begin_one, none_turn, some_turn, moved_turn, branched_turn, IsListing, listing_goes_on, all_listed, all_spent, last_first}

-- a task that begins
abbrev pub fresh_of : CodeBranch → Task
fresh_of b = record { branch = b; passed = 0 }

nothing_put : (before : List (ℕ × Tree)) → before ≡ [] → image before ≡ identity
nothing_put before e = λ i x. image (e i) x

module _ (scene : Scene) (ask : Ask) where
  -- the start
  pub start_with : (b : Branch) (levels : List (ℕ × ℕ)) (pairs : List (Tree × Tree)) (before : List (ℕ × Tree)) (theta : ℕ → Tree) (bound : List (ℕ × ℕ))
      → levels ≡ scene.system.levels → pairs ≡ ask.equations → before ≡ [] → IsUnifiedBy levels pairs (image before) theta bound
      → b ≡ with_bound bound (record (unbound scene ask) { theta = theta })
      → (list : List GeneralSolution) (moves : ℕ) → Finds scene ask list moves ↔ Lists scene ask b list moves
  start_with b levels pairs before theta bound l p e n is =
      let from : IsUnifiedBy levels pairs identity theta bound = subst (λ (z : ℕ → Tree). IsUnifiedBy levels pairs z theta bound) (nothing_put before e) n in
      let asked : IsUnifiedBy levels ask.equations identity theta bound = subst (λ (ps : List (Tree × Tree)). IsUnifiedBy levels ps identity theta bound) p from in
      start_on scene ask b theta bound (subst (λ (ls : List (ℕ × ℕ)). IsUnifiedBy ls ask.equations identity theta bound) l asked) is

  pub not_started : (pairs : List (Tree × Tree)) → pairs ≡ ask.equations → IsNotUnifiable pairs
      → (list : List GeneralSolution) (moves : ℕ) → Finds scene ask list moves ↔ ((list ≡ []) × (moves ≡ 0))
  not_started pairs p n = no_start scene ask (subst (λ (ps : List (Tree × Tree)). IsNotUnifiable ps) p n)

  pub begin_with : (b : CodeBranch) (old new : List Task) → IsStart scene ask (Some b) → old ≡ [] → new ≡ old ++ fresh_of b ∷ [] → IsBegin scene ask (reverse new)
  begin_with b old new h e f =
      let kept : reverse new ≡ fresh_of b ∷ [] = last_first old new (fresh_of b) f ∙ ap (λ (ts : List Task). fresh_of b ∷ reverse ts) e in
      subst (λ (ts : List Task). IsBegin scene ask ts) (sym kept) (begin_one scene ask b h)

  pub begin_without : (new : List Task) → IsStart scene ask None → new ≡ [] → IsBegin scene ask (reverse new)
  begin_without new h e = subst (λ (ts : List Task). IsBegin scene ask (reverse ts)) (sym e) (begin_none scene ask h)

  -- one turn
  module _ (room : Bool) (t u : Task) (old : List Task) (found : List Mgs) (turn : Turn) (h : IsTurn scene ask room t turn u) where
    turned : (x : Turn) → turn ≡ x → IsTurn scene ask room t x u
    turned x e = subst (λ (y : Turn). IsTurn scene ask room t y u) e h

    pub advance_none : (o : Option Mgs) (k : ℕ) → turn ≡ Ended o → o ≡ None → k ≡ 0 → IsAdvance scene ask (t ∷ reverse old) found (reverse old) found k
    advance_none o k e f n =
        subst (λ (m : ℕ). IsAdvance scene ask (t ∷ reverse old) found (reverse old) found m) (sym n)
        (none_turn scene ask t (reverse old) found (turned (Ended None) (e ∙ ap Ended f)))

    pub advance_some : (o : Option Mgs) (g : Mgs) (now : List Mgs) (k : ℕ) → turn ≡ Ended o → o ≡ Some g → now ≡ found ++ g ∷ [] → k ≡ 0
        → IsAdvance scene ask (t ∷ reverse old) found (reverse old) now k
    advance_some o g now k e f is n =
        subst (λ (m : ℕ). IsAdvance scene ask (t ∷ reverse old) found (reverse old) now m) (sym n)
        (some_turn scene ask t (reverse old) found g now is (turned (Ended (Some g)) (e ∙ ap Ended f)))

    pub advance_moved : (new : List Task) (k : ℕ) → turn ≡ Moved → new ≡ old ++ u ∷ [] → k ≡ 1 → IsAdvance scene ask (t ∷ reverse old) found (reverse new) found k
    advance_moved new k e is n =
        subst₂ (λ (ts : List Task) (m : ℕ). IsAdvance scene ask (t ∷ reverse old) found ts found m) (sym (last_first old new u is)) (sym n)
        (moved_turn scene ask t (reverse old) found u 1 (turned Moved e).1)

    pub advance_branched : (b : CodeBranch) (mid new : List Task) (k : ℕ) → turn ≡ Branched b → mid ≡ old ++ u ∷ [] → new ≡ mid ++ fresh_of b ∷ [] → k ≡ 1
        → IsAdvance scene ask (t ∷ reverse old) found (reverse new) found k
    advance_branched b mid new k e is more n =
        let kept : reverse new ≡ fresh_of b ∷ (u ∷ reverse old) = last_first mid new (fresh_of b) more ∙ ap (λ (ts : List Task). fresh_of b ∷ ts) (last_first old mid u is) in
        subst₂ (λ (ts : List Task) (m : ℕ). IsAdvance scene ask (t ∷ reverse old) found ts found m) (sym kept) (sym n)
        (branched_turn scene ask t (reverse old) found u b (turned (Branched b) e).1)

  -- turn after turn
  pub passed_on : (agenda rest : List Task) (t u : Task) (found : List Mgs) (start was count : ℕ) → agenda ≡ rest ++ t ∷ [] → start ≤ was → AreLater scene count t u
      → IsListing scene ask (reverse agenda) found (was - start) → IsListing scene ask (u ∷ reverse rest) found ((was + count) - start)
  passed_on agenda rest t u found start was count e l later h =
      let kept : IsListing scene ask (t ∷ reverse rest) found (was - start) =
      subst (λ (ts : List Task). IsListing scene ask ts found (was - start)) (last_first rest agenda t e) h in
      let total : (was + count) - start ≡ (was - start) + count = omega (arith, l) in
      listing_goes_on scene ask (t ∷ reverse rest) (u ∷ reverse rest) found found (was - start) count ((was + count) - start) kept
      (moved_turn scene ask t (reverse rest) found u count (later ask)) total

  pub goes_on_popped : (rest new : List Task) (t : Task) (found now : List Mgs) (start was is : ℕ) → start ≤ was → was ≤ is
      → IsListing scene ask (t ∷ reverse rest) found (was - start) → IsAdvance scene ask (t ∷ reverse rest) found (reverse new) now (is - was)
      → IsListing scene ask (reverse new) now (is - start)
  goes_on_popped rest new t found now start was is l m h a =
      let total : is - start ≡ (was - start) + (is - was) = omega (arith, l, m) in
      listing_goes_on scene ask (t ∷ reverse rest) (reverse new) found now (was - start) (is - was) (is - start) h a total

  pub spends : (rest : List Task) (t : Task) (found : List Mgs) (start was budget : ℕ) → was ≡ budget
      → IsListing scene ask (t ∷ reverse rest) found (was - start) → TakesMove scene ask t → IsSpentWithin scene ask (budget - start)
  spends rest t found start was budget f h m =
      let left : budget - start ≡ was - start = omega (arith, f) in
      all_spent scene ask t (reverse rest) found (was - start) (budget - start) h m left

  pub finds : (agenda : List Task) (found : List Mgs) (moved left : ℕ) → agenda ≡ [] → moved ≤ left → IsListing scene ask (reverse agenda) found moved
      → IsFoundWithin scene ask left (map solution_seen found) moved
  finds agenda found moved left e l h = (all_listed scene ask found moved (subst (λ (ts : List Task). IsListing scene ask (reverse ts) found moved) e h), l)

pub no_task : (ts : List Task) → length ts ≡ 0 → ts ≡ []
no_task [] e = refl
no_task (t ∷ ts) e = absurd (omega (arith, e))
