-- No entry has the value of a composed part of the answers that are listed first.
use Rattle.std.proofs.Common.{◌≡◌, ℕ, ◌+◌, ◌≤◌, List, [], ◌∷◌, ◌++◌, inl, inr, Bool, true, false, Some, refl, sym, ◌∙◌, ap, subst, Contains}
use Rattle.std.specs.Prelude.{◌≢◌, nat_le, nat_eq, if◌then◌else◌, ⊤}
use Rattle.dps_terms.specs.Tree.{public, private, var, ax, entry, rigid, Tree, leaf, app}
use Rattle.dps_terms.specs.Replace.{substitute}
use Rattle.dps_terms.specs.Bindings.{image}
use Rattle.dps_unify.specs.Order.{level_of}
use Rattle.dps_unify.specs.Unifier.{Unifies, IsNotUnifiable}
use Rattle.dps_know.specs.declared.know.Entry.{Entry}
use Rattle.dps_know.proofs.Listing.{in_cons, in_head, in_tail, in_none, in_left}
use Rattle.dps_solver.specs.Scene.{System, Scene, Ask}
use Rattle.dps_solver.specs.declared.scene.Target.{Target}
use Rattle.dps_solver.specs.Solutions.{identity, IsSolution, valued, IsValuation}
use Rattle.dps_solver.specs.Search.{GeneralSolution, IsPlain, Branch, Way, follow, use_entry, compose, ways, entry_ways, entry_equation, with_tree, with_bound, unbound, AreNewlyBound}
use Rattle.dps_solver.specs.Search.{Leads, follows, lowers, uses, composes, Lists, gives, drops, goes_on, ListsBy, no_way, leads, ends, solution_of, Finds, unsolvable, starts}
use Rattle.dps_directions.specs.Valid.{IsValid, Fits}
use Rattle.dps_directions.specs.Shapes.{HasNoRuleVariable}
use Rattle.dps_directions.specs.Heads.{FirstIsApart}
use Rattle.dps_directions.proofs.Invariant.{IsKept}
use Rattle.dps_directions.proofs.Course.{GoesWith}
use Rattle.dps_directions.proofs.Following.{level_below_m}
use Rattle.dps_directions.proofs.Composing.{IsComposable, composable}
use Rattle.dps_directions.proofs.NewlyBound.{new_targets, moves, moves_else, after_all, bound_is, append_none}
use Rattle.dps_directions.proofs.Ways.{ways_keep, used_entry}
use Rattle.dps_directions.proofs.Beginning.{start_kept, name_no_level}
use Rattle.dps_directions.proofs.Reaching.{leads_unify, unifies_after}
use Rattle.dps_directions.proofs.Respecting.{ends_respect, unmapped}
use Rattle.dps_directions.proofs.Followed.{follow_all}
use Rattle.dps_directions.proofs.Going.{goes_on as goes_ahead, entry_way}
use Rattle.dps_directions.proofs.AlongUse.{there, unifies, along_use}
use Rattle.dps_directions.proofs.PlainStill.{StaysStill, way_still, start_still}
use Rattle.dps_directions.proofs.Heads.{IsApart, IsHead, course, head_at_end}
use Rattle.dps_directions.proofs.HeadWays.{follow_head, no_lower, use_head, compose_head}

-- a root is composed last
abbrev IsLastWay : List Way → Type 0
IsLastWay [] = ⊤
IsLastWay (follow ∷ ws) = IsLastWay ws
IsLastWay (use_entry i ∷ ws) = IsLastWay ws
IsLastWay (compose ∷ ws) = ws ≡ []

last_after : (w : Way) (ws : List Way) → IsLastWay (w ∷ ws) → IsLastWay ws
last_after follow ws h = h
last_after (use_entry i) ws h = h
last_after compose ws h = subst IsLastWay (sym h) tt

entries_before : (l n : ℕ) (es : List Entry) (ws : List Way) → IsLastWay ws → IsLastWay (entry_ways l n es ++ ws)
entries_before l n [] ws h = h
entries_before l n (e ∷ es) ws h = at (nat_le e.level l) (entries_before l (n + 1) es ws h)
  where
    at : (b : Bool) → IsLastWay (entry_ways l (n + 1) es ++ ws) → IsLastWay ((if b then use_entry n ∷ entry_ways l (n + 1) es else entry_ways l (n + 1) es) ++ ws)
    at true k = k
    at false k = k

entries_alone : (l : ℕ) (es : List Entry) → IsLastWay (entry_ways l 1 es)
entries_alone l es = subst IsLastWay (append_none (entry_ways l 1 es)) (entries_before l 1 es [] tt)

rigid_last : (b : Bool) → IsLastWay (if b then compose ∷ [] else [])
rigid_last true = refl
rigid_last false = tt

composed_last : (system : System) (l : ℕ) (t : Tree) → IsLastWay (ways system l t)
composed_last system l (leaf (var w)) = tt
composed_last system l (leaf (public n)) = entries_before l 1 system.know.entries (compose ∷ []) refl
composed_last system l (leaf (rigid k)) = entries_before l 1 system.know.entries (if nat_eq l system.m then compose ∷ [] else []) (rigid_last (nat_eq l system.m))
composed_last system l (leaf (private n)) = entries_alone l system.know.entries
composed_last system l (leaf (ax j)) = entries_alone l system.know.entries
composed_last system l (leaf (entry i)) = entries_alone l system.know.entries
composed_last system l (app f ts) = entries_before l 1 system.know.entries (compose ∷ []) refl

same_first : (q r : GeneralSolution) (qs rs : List GeneralSolution) → q ∷ qs ≡ r ∷ rs → q ≡ r
same_first q r qs rs e = cc

nothing_first : (q : GeneralSolution) (qs : List GeneralSolution) → [] ≡ q ∷ qs → ⊥
nothing_first q qs e = cc

same_entry : (i j : ℕ) → use_entry i ≡ use_entry j → i ≡ j
same_entry i j e = cc

not_variable : (m l : ℕ) (t : Tree) → IsComposable m l t → (v : ℕ) → t ≢ leaf (var v)
not_variable m l (leaf (var w)) h v e = h
not_variable m l (leaf (public n)) h v e = cc
not_variable m l (leaf (rigid n)) h v e = cc
not_variable m l (leaf (private n)) h v e = h
not_variable m l (leaf (ax n)) h v e = h
not_variable m l (leaf (entry n)) h v e = h
not_variable m l (app f ts) h v e = cc

module _ (names : ℕ → Type 0) (scene : Scene) (ask : Ask) (valid : IsValid names scene) (fits : Fits scene ask) (over : HasNoRuleVariable scene ask)
    (s : ℕ → Tree) (g : List Tree) (solves : IsSolution names scene.system s) (valuation : IsValuation scene s g) (first : GeneralSolution) (plain : IsPlain first) where
  abbrev Head : Branch → Type 0
  Head c = IsHead names scene ask (course names scene ask valid s g solves valuation first plain) first c

  abbrev Goes : Branch → (ℕ → Tree) → Type 0
  Goes b psi = GoesWith names scene ask (course names scene ask valid s g solves valuation first plain) b (valued g s) psi

  below_m : (x l : ℕ) → level_of scene.system.levels x ≡ Some l → l ≤ scene.system.m
  below_m = level_below_m names scene valid

  -- an entry that could be the target's tree is among the ways that are left
  abbrev IsAhead : Branch → Target → List Way → Type 0
  IsAhead b z ws =
      ((v : ℕ) → substitute b.theta z.term ≢ leaf (var v)) → (i : ℕ) (psi : ℕ → Tree) → psi z.name ≡ leaf (entry i) → Goes b psi → Contains ws (use_entry i)

  nothing_reached : (b c : Branch) (z : Target) (rest : List Target) (moves i : ℕ) (kept : IsKept scene ask b) (is : b.targets ≡ z ∷ rest)
      → Unifies b.theta ask.equations → Contains (ways scene.system z.level (substitute b.theta z.term)) (use_entry i)
      → Leads scene b z rest (use_entry i) c → Lists scene ask c [] moves → (psi : ℕ → Tree) → psi z.name ≡ leaf (entry i) → ¬ Goes b psi
  nothing_reached b c z rest moves i kept is solved among way lists psi tree goes =
      let on = course names scene ask valid s g solves valuation first plain in
      let next = along_use names scene ask valid on b kept (valued g s) psi goes z rest is i tree below_m c way in
      let r = follow_all names scene ask valid fits on (ends_respect names scene ask) (goes_ahead names scene ask) c [] moves next.0 next.1
      (ways_keep names scene ask b c z rest (use_entry i) valid fits kept is among way)
      (leads_unify scene ask b c z rest (use_entry i) way solved) next.2 lists in
      in_none r.solution r.listed

  passed : {b c : Branch} {z : Target} {rest : List Target} {w : Way} {moves : ℕ} (ws : List Way) (kept : IsKept scene ask b) (is : b.targets ≡ z ∷ rest)
      → Unifies b.theta ask.equations → Contains (ways scene.system z.level (substitute b.theta z.term)) w
      → Leads scene b z rest w c → Lists scene ask c [] moves → IsAhead b z (w ∷ ws) → IsAhead b z ws
  passed {b = b} {c = c} {z = z} {rest = rest} {w = w} {moves = moves} ws kept is solved among way lists ahead d i psi tree goes =
      elim (in_cons (use_entry i) w ws (ahead d i psi tree goes)) [
        | inl e ↦
            absurd (nothing_reached b c z rest moves i kept is solved
            (subst (λ v. Contains (ways scene.system z.level (substitute b.theta z.term)) v) (sym e) among)
            (subst (λ v. Leads scene b z rest v c) (sym e) way) lists psi tree goes)
        | inr k ↦ k
      ]

  ended : {b : Branch} {z : Target} {rest : List Target} {j : ℕ} (ws : List Way) (kept : IsKept scene ask b) (is : b.targets ≡ z ∷ rest)
      → IsNotUnifiable (entry_equation scene b z j) → IsAhead b z (use_entry j ∷ ws) → IsAhead b z ws
  ended {b = b} {z = z} {rest = rest} {j = j} ws kept is never ahead d i psi tree goes =
      elim (in_cons (use_entry i) (use_entry j) ws (ahead d i psi tree goes)) [
        | inl e ↦
            let on = course names scene ask valid s g solves valuation first plain in
            absurd (never (valued g s) (subst (λ k. Unifies (valued g s) (entry_equation scene b z k)) (same_entry i j e)
            (unifies names scene ask valid on b kept (valued g s) psi goes z rest is i tree)))
        | inr k ↦ k
      ]

  -- back over the way that leads to the first solution
  over_way : (b c : Branch) (z : Target) (rest : List Target) {w : Way} (ws : List Way) (kept : IsKept scene ask b) (is : b.targets ≡ z ∷ rest)
      → StaysStill scene b → Contains (ways scene.system z.level (substitute b.theta z.term)) w → Leads scene b z rest w c
      → IsLastWay (w ∷ ws) → IsAhead b z (w ∷ ws) → Head c → Head b
  over_way b c z rest ws kept is stays among (follows {w = w} e up q) fine ahead head =
      follow_head names scene ask valid s g solves valuation first plain b z rest kept is stays w e up (subst Head q head)
  over_way b c z rest ws kept is stays among (lowers {w = w} e high q) fine ahead head =
      absurd (no_lower names scene ask valid s g solves valuation first plain b z rest kept is stays w e high (subst Head q head))
  over_way b c z rest ws kept is stays among (composes q) fine ahead head =
      let root = composable scene.system z.level (substitute b.theta z.term) among in
      compose_head names scene ask valid s g solves valuation first plain b z rest kept is stays root (subst Head q head)
      (λ i psi tree goes.
      elim (in_cons (use_entry i) compose ws (ahead (not_variable scene.system.m z.level (substitute b.theta z.term) root) i psi tree goes)) [
        | inl e ↦ let d : use_entry i ≡ compose = e in cc
        | inr k ↦ in_none (use_entry i) (subst (λ vs. Contains vs (use_entry i)) fine k)
      ])
  over_way b c z rest ws kept is stays among (uses {i = i} {u = u} {theta = theta} {bound = ps} mgu e newly q) fine ahead head =
      let entry_there = used_entry scene.system z.level i (substitute b.theta z.term) among in
      let to = q ∙ ap (λ f. with_bound ps (record (with_tree b z rest (leaf (entry i))) { theta = f })) e ∙ bound_is ps
      (record (with_tree b z rest (leaf (entry i))) { theta = (λ x. substitute (image u) (b.theta x)) }) in
      use_head names scene ask valid s g solves valuation first plain b z rest kept is stays i u mgu entry_there ps
      (subst (λ f. AreNewlyBound b.levels b.theta f ps) e newly) (subst Head to head)

  mutual
    head_of : {b : Branch} {list : List GeneralSolution} {moves : ℕ} → Lists scene ask b list moves → IsKept scene ask b → StaysStill scene b
        → Unifies b.theta ask.equations → (more : List GeneralSolution) → list ≡ first ∷ more → Head b
    head_of (gives {b = b} e r l n) kept stays solved more h =
        head_at_end names scene ask valid s g solves valuation first plain b kept solved e r
        (sym (same_first (solution_of scene ask b) first [] more (sym l ∙ h))) stays
    head_of (drops e r l n) kept stays solved more h = absurd (nothing_first first more (sym l ∙ h))
    head_of (goes_on {b = b} {z = z} {rest = rest} e lists) kept stays solved more h =
        head_by lists kept stays solved e (λ w k. k) (composed_last scene.system z.level (substitute b.theta z.term))
        (λ d i psi tree goes.
        entry_way scene.system z.level i (substitute b.theta z.term) d
        (there names scene ask valid (course names scene ask valid s g solves valuation first plain) b kept (valued g s) psi goes z rest e i tree))
        more h

    head_by : {b : Branch} {z : Target} {rest : List Target} {ws : List Way} {list : List GeneralSolution} {moves : ℕ} → ListsBy scene ask b z rest ws list moves
        → IsKept scene ask b → StaysStill scene b → Unifies b.theta ask.equations → b.targets ≡ z ∷ rest
        → ((w : Way) → Contains ws w → Contains (ways scene.system z.level (substitute b.theta z.term)) w) → IsLastWay ws → IsAhead b z ws
        → (more : List GeneralSolution) → list ≡ first ∷ more → Head b
    head_by no_way kept stays solved e all fine ahead more h = absurd (nothing_first first more h)
    head_by (leads {w = w} {ws = ws} {here = []} g h' t l n) kept stays solved e all fine ahead more h =
        head_by t kept stays solved e (λ v k. all v (in_tail v w ws k)) (last_after w ws fine)
        (passed ws kept e solved (all w (in_head w ws)) g h' ahead) more (sym l ∙ h)
    head_by (leads {b = b} {c = c} {z = z} {rest = rest} {w = w} {ws = ws} {here = q ∷ qs} {others = others} g h' t l n) kept stays solved e all fine ahead more h =
        let is_first = same_first q first (qs ++ others) more (sym l ∙ h) in
        let among = all w (in_head w ws) in
        over_way b c z rest ws kept e stays among g fine ahead
        (head_of h' (ways_keep names scene ask b c z rest w valid fits kept e among g)
        (way_still names scene ask valid fits over b z rest kept e stays c among g) (leads_unify scene ask b c z rest w g solved) qs (ap (λ r. r ∷ qs) is_first))
    head_by (ends {i = i} {ws = ws} never t n) kept stays solved e all fine ahead more h =
        head_by t kept stays solved e (λ v k. all v (in_tail v (use_entry i) ws k)) fine (ended ws kept e never ahead) more h

  -- the answers
  module _ (u : List (ℕ × Tree)) (ps : List (ℕ × ℕ)) (newly : AreNewlyBound scene.system.levels identity (image u) ps) where
    abbrev start : Branch
    start = after_all (image u) ps (record (unbound scene ask) { theta = image u })

    answers_apart : Head start → (t : Tree) → Contains first.answers t → IsApart scene s g t
    answers_apart head t c =
        let z = unmapped (λ (q : Target). head.last q.name) ask.targets t (subst (λ ts. Contains ts t) head.answers c) in
        let own : moves (image u) ps z.0.name ≡ leaf (var z.0.name) =
        moves_else (image u) ps z.0.name (λ q k e. name_no_level names scene ask valid fits z.0 z.1 q.1
        (subst (λ n. level_of scene.system.levels n ≡ Some q.1) e ((newly.those q).0 k).0)) in
        let is = z.2 ∙ head.ends z.0.name ∙ ap (substitute head.rho) own in
        subst (IsApart scene s g) (sym is) (head.apart z.0 (in_left z.0 ask.targets (new_targets (image u) ps) z.1))

  pub first_apart : {list : List GeneralSolution} {moves : ℕ} → Finds scene ask list moves → (more : List GeneralSolution) → list ≡ first ∷ more
      → (t : Tree) → Contains first.answers t → IsApart scene s g t
  first_apart (unsolvable never n) more h t c = absurd (nothing_first first more h)
  first_apart (starts {u = u} {theta = theta} {bound = ps} {b = b} {list = list} {moves = moves} mgu e m q lists) more h t c =
      let same = q ∙ ap (λ f. with_bound ps (record (unbound scene ask) { theta = f })) e in
      let newly = subst (λ f. AreNewlyBound scene.system.levels identity f ps) e m in
      let head = head_of (subst (λ d. Lists scene ask d list moves) same lists) (start_kept names scene ask valid fits u ps mgu newly)
      (start_still names scene ask valid fits over u ps mgu newly) (unifies_after scene ask u ps mgu.unifies) more h in
      answers_apart u ps newly (subst Head (bound_is ps (record (unbound scene ask) { theta = image u })) head) t c

pub first_is_apart : (names : ℕ → Type 0) (scene : Scene) (ask : Ask) → FirstIsApart names scene ask
first_is_apart names scene ask = λ first more moves valid fits over found plain t u c inside is_composed i there s g solves valuation.
    first_apart names scene ask valid fits over s g solves valuation first plain found more refl t c u inside is_composed i there
