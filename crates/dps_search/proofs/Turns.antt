-- One turn, by the step that is made.
use Rattle.std.proofs.Common.{◌≡◌, ℕ, ◌<◌, Bool, true, false, List, [], ◌∷◌, length, get_or, drop, Option, Some, None, refl, sym, ◌∙◌, ap, subst, arith, inl, inr, Result, Ok, Err}
use Rattle.std.specs.Prelude.{◌↔◌, IfOk, OnOk}
use Rattle.dps_terms.specs.Tree.{Tree}
use Rattle.dps_terms.specs.Replace.{substitute}
use Rattle.dps_terms.specs.Bindings.{image}
use Rattle.dps_unify.specs.Unifier.{IsNotUnifiable}
use Rattle.dps_solver.specs.Scene.{System, Scene, Ask}
use Rattle.dps_solver.specs.declared.scene.Target.{Target}
use Rattle.dps_solver.specs.Search.{GeneralSolution, Branch, Way, follow, use_entry, compose, composed, entry_equation, with_bound, uses}
use Rattle.dps_solver.specs.Search.{Leads, follows, lowers, composes, Lists, gives, drops, goes_on, ListsBy, solution_of, bindings_of}
use Rattle.dps_solver.specs.Solutions.{Respects}
use Rattle.dps_solver.proofs.Once.{none_is_some}
use Rattle.dps_search.specs.declared.scene.Mgs.{Mgs}
use Rattle.dps_search.specs.declared.step.Step.{Step}
use Rattle.dps_search.specs.declared.step.Step.TheVariants.{Follow, Use, Compose}
use Rattle.dps_search.specs.declared.task.Task.{Task}
use Rattle.dps_search.specs.declared.task.Turn.{Turn}
use Rattle.dps_search.specs.declared.task.Turn.TheVariants.{Ended, Moved, Branched, Refused}
use Rattle.dps_search.specs.Code.{branch_of, solution_seen}
use Rattle.dps_search.specs.Going.{IsFollowed, entered}
use Rattle.dps_bindings.specs.Putting.{IsUnifiedBy}
use Rattle.dps_search.specs.Ways.{ways_behind, IsNextStep}
use Rattle.dps_search.specs.Finishing.{IsFinished}
use Rattle.dps_search.specs.Tasks.{ListsBehind, TaskLists, AreJoined, IsLater, IsTurn, IsNextOf, IsPassed}
use Rattle.dps_search.proofs.Turning.{begins, leads_on, leads_last, ends_here, over_here, takes_one}

through : {A B C : Type 0} → A ↔ B → B ↔ C → A ↔ C
through h k = (λ a. k.0 (h.0 a), λ c. h.1 (k.1 c))

later_of : (P Q : List GeneralSolution → ℕ → Type 0) → ((list : List GeneralSolution) (moves : ℕ) → P list moves ↔ Q list moves)
    → (list : List GeneralSolution) (moves : ℕ) → IsLater 1 P list moves ↔ IsLater 1 Q list moves
later_of P Q h list moves = (
  λ k. record { left = k.left; lists_left = (h list k.left).0 k.lists_left; moves_are = k.moves_are },
  λ k. record { left = k.left; lists_left = (h list k.left).1 k.lists_left; moves_are = k.moves_are },
)

joined_of : (R P Q : List GeneralSolution → ℕ → Type 0) → ((list : List GeneralSolution) (moves : ℕ) → P list moves ↔ Q list moves)
    → (list : List GeneralSolution) (moves : ℕ) → AreJoined R P list moves ↔ AreJoined R Q list moves
joined_of R P Q h list moves = (
  λ k. record {
    here = k.here;
    others = k.others;
    before = k.before;
    after = k.after;
    lists_first = k.lists_first;
    lists_second = (h k.others k.after).0 k.lists_second;
    list_is = k.list_is;
    moves_are = k.moves_are;
  },
  λ k. record {
    here = k.here;
    others = k.others;
    before = k.before;
    after = k.after;
    lists_first = k.lists_first;
    lists_second = (h k.others k.after).1 k.lists_second;
    list_is = k.list_is;
    moves_are = k.moves_are;
  },
)

module _ (scene : Scene) (ask : Ask) where
  -- a task that begins
  pub fresh_lists : (t : Task) → t.passed ≡ 0 → (list : List GeneralSolution) (moves : ℕ) → Lists scene ask (branch_of t.branch) list moves ↔ TaskLists scene ask t list moves
  fresh_lists t e list moves =
      through (begins scene ask (branch_of t.branch) list moves)
      (subst (λ n. ListsBehind scene ask (branch_of t.branch) t.branch.targets.items n list moves) (sym e), subst (λ n. ListsBehind scene ask (branch_of t.branch) t.branch.targets.items n list moves) e)

  -- no target is left
  module _ (old new : Task) (room : Bool) (none : old.branch.targets.items ≡ []) where
    whole : (list : List GeneralSolution) (moves : ℕ) → TaskLists scene ask old list moves ↔ Lists scene ask (branch_of old.branch) list moves
    whole list moves = (
      subst (λ ts. ListsBehind scene ask (branch_of old.branch) ts old.passed list moves) none,
      subst (λ ts. ListsBehind scene ask (branch_of old.branch) ts old.passed list moves) (sym none),
    )

    found_one : (g : Mgs) (list : List GeneralSolution) (moves : ℕ) → Respects scene.system (bindings_of scene (branch_of old.branch)) → solution_seen g ≡ solution_of scene ask (branch_of old.branch)
        → Lists scene ask (branch_of old.branch) list moves → (list ≡ solution_seen g ∷ []) × (moves ≡ 0)
    found_one g list moves r e (gives f s l n) = (l ∙ ap (λ x. x ∷ []) (sym e), n)
    found_one g list moves r e (drops f s l n) = absurd (s r)
    found_one g list moves r e (goes_on f h) = absurd (none_is_some none f)

    dropped : (list : List GeneralSolution) (moves : ℕ) → ¬ Respects scene.system (bindings_of scene (branch_of old.branch))
        → Lists scene ask (branch_of old.branch) list moves → (list ≡ []) × (moves ≡ 0)
    dropped list moves r (gives f s l n) = absurd (r s)
    dropped list moves r (drops f s l n) = (l, n)
    dropped list moves r (goes_on f h) = absurd (none_is_some none f)

    pub finished : (found : Option Mgs) → IsFinished scene ask (branch_of old.branch) found → IsTurn scene ask room old (Ended found) new
    finished None r = λ list moves. through (whole list moves) (dropped list moves r, λ e. drops none r e.0 e.1)
    finished (Some g) r = λ list moves. through (whole list moves) (found_one g list moves r.0 r.1, λ e. gives none r.0 (e.0 ∙ ap (λ x. x ∷ []) r.1) e.1)

  -- a target is first
  module _ (old : Task) (z : Target) (rest : List Target) (some : old.branch.targets.items ≡ z ∷ rest) where
    abbrev b : Branch
    b = branch_of old.branch

    abbrev behind : ℕ → List Way
    behind passed = ways_behind scene.system z.level (substitute b.theta z.term) passed

    opened : (list : List GeneralSolution) (moves : ℕ) → TaskLists scene ask old list moves ↔ ListsBy scene ask b z rest (behind old.passed) list moves
    opened list moves = (
      subst (λ ts. ListsBehind scene ask b ts old.passed list moves) some,
      subst (λ ts. ListsBehind scene ask b ts old.passed list moves) (sym some),
    )

    opened_as : (ws : List Way) → behind old.passed ≡ ws → (list : List GeneralSolution) (moves : ℕ) → TaskLists scene ask old list moves ↔ ListsBy scene ask b z rest ws list moves
    opened_as ws e list moves =
        through (opened list moves)
        (subst (λ vs. ListsBy scene ask b z rest vs list moves) e, subst (λ vs. ListsBy scene ask b z rest vs list moves) (sym e))

    pub no_step : (new : Task) (room : Bool) → IsNextOf scene.system b (z ∷ rest) old.passed None → IsTurn scene ask room old (Ended None) new
    no_step new room e = λ list moves. through (opened_as [] e list moves) (over_here scene ask b z rest list moves)

    some_way : (step : Step) → IsNextOf scene.system b (z ∷ rest) old.passed (Some step) → (w : Way) × (ws : List Way) × (behind old.passed ≡ w ∷ ws)
    some_way (Follow w) e = (follow, [], ap (λ t. ways_behind scene.system z.level t old.passed) e)
    some_way (Use i) e = (use_entry i, behind i, e)
    some_way Compose e = (compose, [], e)

    pub no_room : (new : Task) (step : Step) → IsNextOf scene.system b (z ∷ rest) old.passed (Some step) → IsTurn scene ask false old Refused new
    no_room new step e =
        let w = some_way step e in
        (refl, λ list moves h. takes_one scene ask b z rest w.0 w.1 list moves ((opened_as (w.0 ∷ w.1) w.2 list moves).0 h))

    last_way : (w : Way) (new : Task) → behind old.passed ≡ w ∷ [] → Leads scene b z rest w (branch_of new.branch) → new.passed ≡ 0
        → IsTurn scene ask true old Moved new
    last_way w new e g p = (
      refl,
      λ list moves.
          through (opened_as (w ∷ []) e list moves) (through (leads_last scene ask b z rest w (branch_of new.branch) list moves g)
          (later_of (Lists scene ask (branch_of new.branch)) (TaskLists scene ask new) (fresh_lists new p) list moves)),
    )

    pub followed : (new : Task) (w : ℕ) → IsNextOf scene.system b (z ∷ rest) old.passed (Some (Follow w)) → IsFollowed b z rest w (branch_of new.branch) → new.passed ≡ 0
        → IsTurn scene ask true old Moved new
    followed new w e f p = last_way follow new (ap (λ t. ways_behind scene.system z.level t old.passed) e)
        (elim f [ inl h ↦ follows e h.0 h.1 | inr h ↦ lowers e h.0 h.1 ]) p

    pub composed_turn : (new : Task) → IsNextOf scene.system b (z ∷ rest) old.passed (Some Compose) → branch_of new.branch ≡ composed b z rest (substitute b.theta z.term)
        → new.passed ≡ 0 → IsTurn scene ask true old Moved new
    composed_turn new e f p = last_way compose new e (composes f) p

    passed_lists : (new : Task) (i : ℕ) → new.branch ≡ old.branch → new.passed ≡ i
        → (list : List GeneralSolution) (moves : ℕ) → ListsBy scene ask b z rest (behind i) list moves ↔ TaskLists scene ask new list moves
    passed_lists new i same p list moves =
        let one : Task = record { branch = old.branch; passed = i } in
        let is : new ≡ one = λ j. record { branch = same j; passed = p j } in (
          λ h. subst (λ t. TaskLists scene ask t list moves) (sym is) (subst (λ ts. ListsBehind scene ask b ts i list moves) (sym some) h),
          λ h. subst (λ ts. ListsBehind scene ask b ts i list moves) some (subst (λ t. TaskLists scene ask t list moves) is h),
        )

    pub passed_turn : (new : Task) (i : ℕ) (turn : Turn) → IsNextOf scene.system b (z ∷ rest) old.passed (Some (Use i)) → IsPassed scene b z rest i turn → new.branch ≡ old.branch → new.passed ≡ i
        → IsTurn scene ask true old turn new
    passed_turn new i (Ended found) e f same p = absurd f
    passed_turn new i Refused e f same p = absurd f
    passed_turn new i Moved e f same p = (
      refl,
      λ list moves.
          through (opened_as (use_entry i ∷ behind i) e list moves) (through (ends_here scene ask b z rest i (behind i) list moves f)
          (later_of (ListsBy scene ask b z rest (behind i)) (TaskLists scene ask new) (passed_lists new i same p) list moves)),
    )
    passed_turn new i (Branched c) e f same p = (
      refl,
      λ list moves.
          through (opened_as (use_entry i ∷ behind i) e list moves) (through (leads_on scene ask b z rest (use_entry i) (behind i) (branch_of c) list moves f)
          (joined_of (Lists scene ask (branch_of c)) (ListsBy scene ask b z rest (behind i)) (TaskLists scene ask new) (passed_lists new i same p) list moves)),
    )

-- the targets by their first
pub by_first : (ts : List Target) → 0 < length ts → (z : Target) × (rest : List Target) × (ts ≡ z ∷ rest)
by_first [] h = absurd (none_below h)
  where
    none_below : 0 < 0 → ⊥
    none_below h = omega (arith, h)
by_first (z ∷ rest) h = (z, rest, refl)

-- an entry is used for the first target
module _ (scene : Scene) (b : Branch) (target z : Target) (ts rest : List Target) (i : ℕ) (some : ts ≡ z ∷ rest) (at : target ≡ get_or ts 0 target) where
  pub first_is : target ≡ z
  first_is = at ∙ ap (λ (xs : List Target). get_or xs 0 target) some

  pub others_are : drop 1 ts ≡ rest
  others_are = ap (drop 1) some

  pub entered_not : (pairs : List (Tree × Tree)) → pairs ≡ entry_equation scene b target i → IsNotUnifiable pairs → IsNotUnifiable (entry_equation scene b z i)
  entered_not pairs e h = subst IsNotUnifiable (e ∙ ap (λ y. entry_equation scene b y i) first_is) h

  pub entered_leads : (pairs : List (Tree × Tree)) (after : ℕ → Tree) (bound : List (ℕ × ℕ)) (c : Branch) → pairs ≡ entry_equation scene b target i
      → IsUnifiedBy b.levels pairs b.theta after bound → c ≡ with_bound bound (entered b target.name (drop 1 ts) i after) → Leads scene b z rest (use_entry i) c
  entered_leads pairs after bound c e n k =
      let m = subst (λ ps. IsUnifiedBy b.levels ps b.theta after bound) (e ∙ ap (λ y. entry_equation scene b y i) first_is) n in
      uses m.is m.becomes m.newly (k ∙ (λ j. with_bound bound (entered b (first_is j).name (others_are j) i after)))

-- what holds of a result's value
pub if_ok : {X E : Type 0} (r : Result X E) (R : X → Type 0) → ((x : X) → r ≡ Ok x → R x) → IfOk r R
if_ok (Ok x) R f = f x refl
if_ok (Err e) R f = tt

module _ (scene : Scene) (ask : Ask) (old new : Task) (some : 0 < length old.branch.targets.items) where
  abbrev first : (z : Target) × (rest : List Target) × (old.branch.targets.items ≡ z ∷ rest)
  first = by_first old.branch.targets.items some

  next_of : (step : Option Step) → IsNextOf scene.system (branch_of old.branch) old.branch.targets.items old.passed step
      → IsNextOf scene.system (branch_of old.branch) (first.0 ∷ first.1) old.passed step
  next_of step h = subst (λ ts. IsNextOf scene.system (branch_of old.branch) ts old.passed step) first.2 h

  pub go_follow : (w : ℕ) (turn : Turn) → IsNextOf scene.system (branch_of old.branch) old.branch.targets.items old.passed (Some (Follow w)) → turn ≡ Moved
      → ((z : Target) (rest : List Target) → old.branch.targets.items ≡ z ∷ rest → IsFollowed (branch_of old.branch) z rest w (branch_of new.branch)) → new.passed ≡ 0
      → IsTurn scene ask true old turn new
  go_follow w turn h m f p =
      subst (λ t. IsTurn scene ask true old t new) (sym m) (followed scene ask old first.0 first.1 first.2 new w (next_of (Some (Follow w)) h) (f first.0 first.1 first.2) p)

  pub go_compose : (turn : Turn) → IsNextOf scene.system (branch_of old.branch) old.branch.targets.items old.passed (Some Compose) → turn ≡ Moved
      → ((z : Target) (rest : List Target) → old.branch.targets.items ≡ z ∷ rest
      → branch_of new.branch ≡ composed (branch_of old.branch) z rest (substitute (image old.branch.theta) z.term)) → new.passed ≡ 0
      → IsTurn scene ask true old turn new
  go_compose turn h m f p =
      subst (λ t. IsTurn scene ask true old t new) (sym m) (composed_turn scene ask old first.0 first.1 first.2 new (next_of (Some Compose) h) (f first.0 first.1 first.2) p)

  pub go_use : (i : ℕ) (turn : Turn) → IsNextOf scene.system (branch_of old.branch) old.branch.targets.items old.passed (Some (Use i))
      → ((z : Target) (rest : List Target) → old.branch.targets.items ≡ z ∷ rest → IsPassed scene (branch_of old.branch) z rest i turn)
      → new.branch ≡ old.branch → new.passed ≡ i → IsTurn scene ask true old turn new
  go_use i turn h f same p =
      passed_turn scene ask old first.0 first.1 first.2 new i turn (next_of (Some (Use i)) h) (f first.0 first.1 first.2) same p

  pub go_nowhere : (room : Bool) → IsNextOf scene.system (branch_of old.branch) old.branch.targets.items old.passed None → IsTurn scene ask room old (Ended None) new
  go_nowhere room h = no_step scene ask old first.0 first.1 first.2 new room (next_of None h)

  pub go_not : (step : Step) → IsNextOf scene.system (branch_of old.branch) old.branch.targets.items old.passed (Some step) → IsTurn scene ask false old Refused new
  go_not step h = no_room scene ask old first.0 first.1 first.2 new step (next_of (Some step) h)

-- the same of a call's result
module _ {E : Type 0} (scene : Scene) (old new : Task) (some : 0 < length old.branch.targets.items) where
  pub follow_result : (w : ℕ) (r : Result Turn E) → IsNextOf scene.system (branch_of old.branch) old.branch.targets.items old.passed (Some (Follow w)) → IfOk r (λ t. t ≡ Moved)
      → OnOk r ((z : Target) (rest : List Target) → old.branch.targets.items ≡ z ∷ rest → IsFollowed (branch_of old.branch) z rest w (branch_of new.branch))
      → OnOk r (new.passed ≡ 0) → IfOk r (λ t. (ask : Ask) → IsTurn scene ask true old t new)
  follow_result w (Ok t) h m f p = λ ask. go_follow scene ask old new some w t h m f p
  follow_result w (Err e) h m f p = tt

  pub compose_result : (r : Result Turn E) → IsNextOf scene.system (branch_of old.branch) old.branch.targets.items old.passed (Some Compose) → IfOk r (λ t. t ≡ Moved)
      → OnOk r ((z : Target) (rest : List Target) → old.branch.targets.items ≡ z ∷ rest
      → branch_of new.branch ≡ composed (branch_of old.branch) z rest (substitute (image old.branch.theta) z.term))
      → OnOk r (new.passed ≡ 0) → IfOk r (λ t. (ask : Ask) → IsTurn scene ask true old t new)
  compose_result (Ok t) h m f p = λ ask. go_compose scene ask old new some t h m f p
  compose_result (Err e) h m f p = tt

  pub use_result : (i : ℕ) (r : Result Turn E) → IsNextOf scene.system (branch_of old.branch) old.branch.targets.items old.passed (Some (Use i))
      → IfOk r (λ t. (z : Target) (rest : List Target) → old.branch.targets.items ≡ z ∷ rest → IsPassed scene (branch_of old.branch) z rest i t)
      → OnOk r (new.branch ≡ old.branch) → OnOk r (new.passed ≡ i) → IfOk r (λ t. (ask : Ask) → IsTurn scene ask true old t new)
  use_result i (Ok t) h f same p = λ ask. go_use scene ask old new some i t h f same p
  use_result i (Err e) h f same p = tt

  pub room_result : (ask : Ask) (room : Bool) (r : Result Turn E) → room ≡ true → IfOk r (λ t. (ask : Ask) → IsTurn scene ask true old t new)
      → IfOk r (λ t. IsTurn scene ask room old t new)
  room_result ask room (Ok t) e h = subst (λ b. IsTurn scene ask b old t new) (sym e) (h ask)
  room_result ask room (Err x) e h = tt

-- the next way for the first target
pub next_of_first : (system : System) (b : Branch) (ts : List Target) (passed : ℕ) (target : Target) (term : Tree) (step : Option Step) → target ≡ get_or ts 0 target
    → term ≡ substitute b.theta target.term → IsNextStep system target.level term passed step → IsNextOf system b ts passed step
next_of_first system b [] passed target term step at e h = tt
next_of_first system b (z ∷ rest) passed target term step at e h =
    subst (λ (y : Target). IsNextStep system y.level (substitute b.theta y.term) passed step) at (subst (λ t. IsNextStep system target.level t passed step) e h)
