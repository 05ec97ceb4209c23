-- What is listed comes from branches that keep the invariant.
use Rattle.std.proofs.Common.{◌≡◌, ℕ, List, [], ◌∷◌, inl, inr, refl, sym, ◌∙◌, ap, subst, Contains, slice_index_or}
use Rattle.std.specs.Prelude.{⊤}
use Rattle.dps_terms.specs.Tree.{var, public, private, ax, entry, rigid, leaf, app, Tree}
use Rattle.dps_unify.specs.Unifier.{Unifies, IsMgu}
use Rattle.dps_unify.proofs.Trees.{substitute_in_turn}
use Rattle.dps_terms.specs.Replace.{substitute}
use Rattle.dps_terms.specs.Bindings.{image}
use Rattle.dps_solver.specs.Scene.{Scene, Ask}
use Rattle.dps_solver.specs.declared.scene.Target.{Target}
use Rattle.dps_solver.specs.Search.{
  GeneralSolution,
  Branch,
  Way,
  ways,
  Leads,
  follows,
  lowers,
  uses,
  composes,
  with_tree,
  with_one_bound,
  Lists,
  gives,
  drops,
  goes_on,
  ListsBy,
  no_way,
  leads,
  ends,
  use_entry,
  AreNewlyBound,
  solution_of,
  unbound,
  with_bound,
  Finds,
  unsolvable,
  starts,
}
use Rattle.dps_solver.specs.Solutions.{identity}
use Rattle.dps_directions.specs.Valid.{IsValid, Fits}
use Rattle.dps_directions.proofs.Invariant.{IsKept}
use Rattle.dps_directions.proofs.Steps.{IsOutcome, StartIsKept, WaysKeep, ListedAreOutcomes}
use Rattle.dps_know.proofs.Listing.{in_cons, in_head, in_tail, in_none, in_append}

-- what unifies pairs still does after more was put
still_unify : (q th : ℕ → Tree) (pairs : List (Tree × Tree)) → Unifies th pairs → Unifies (λ x. substitute q (th x)) pairs
still_unify q th pairs h k d l =
    let p = slice_index_or pairs k d in sym (substitute_in_turn q th p.0) ∙ ap (substitute q) (h k d l) ∙ substitute_in_turn q th p.1

theta_bound_one : (t : Tree) (p : ℕ × ℕ) (b : Branch) → (with_one_bound t p b).theta ≡ b.theta
theta_bound_one (leaf (var y)) p b = refl
theta_bound_one (leaf (public n)) p b = refl
theta_bound_one (leaf (private n)) p b = refl
theta_bound_one (leaf (ax n)) p b = refl
theta_bound_one (leaf (entry n)) p b = refl
theta_bound_one (leaf (rigid n)) p b = refl
theta_bound_one (app f ts) p b = refl

theta_bound : (ps : List (ℕ × ℕ)) (b : Branch) → (with_bound ps b).theta ≡ b.theta
theta_bound [] b = refl
theta_bound (p ∷ ps) b = theta_bound ps (with_one_bound (b.theta p.0) p b) ∙ theta_bound_one (b.theta p.0) p b

pub unifies_after : (scene : Scene) (ask : Ask) (u : List (ℕ × Tree)) (bound : List (ℕ × ℕ)) → Unifies (image u) ask.equations
    → Unifies (with_bound bound (record (unbound scene ask) { theta = image u })).theta ask.equations
unifies_after scene ask u bound h = subst (λ th. Unifies th ask.equations) (sym (theta_bound bound (record (unbound scene ask) { theta = image u }))) h

pub leads_unify : (scene : Scene) (ask : Ask) (b c : Branch) (z : Target) (rest : List Target) (w : Way) → Leads scene b z rest w c → Unifies b.theta ask.equations → Unifies c.theta ask.equations
leads_unify scene ask b c z rest w (follows e u q) h = subst (λ (d : Branch). Unifies d.theta ask.equations) (sym q) h
leads_unify scene ask b c z rest w (lowers {w = v} e u q) h =
    subst (λ (d : Branch). Unifies d.theta ask.equations) (sym q) (still_unify (image ((v, leaf (var z.name)) ∷ [])) b.theta ask.equations h)
leads_unify scene ask b c z rest w (uses {i = i} {u = u} {theta = theta} {bound = bound} m e n q) h =
    subst (λ (d : Branch). Unifies d.theta ask.equations) (sym q)
    (subst (λ th. Unifies th ask.equations) (sym (theta_bound bound (record (with_tree b z rest (leaf (entry i))) { theta = theta }) ∙ e)) (still_unify (image u) b.theta ask.equations h))
leads_unify scene ask b c z rest w (composes q) h = subst (λ (d : Branch). Unifies d.theta ask.equations) (sym q) h

-- What the start has and each way keeps, the branch of a listed solution has.
module _ (names : ℕ → Type 0) (scene : Scene) (ask : Ask) (valid : IsValid names scene) (fits : Fits scene ask) (start_kept : StartIsKept names scene ask)
    (keep : WaysKeep names scene ask) (Q : Branch → Type 0)
    (start : (u : List (ℕ × Tree)) (bound : List (ℕ × ℕ)) → IsMgu scene.system.levels ask.equations u
    → AreNewlyBound scene.system.levels identity (image u) bound → Q (with_bound bound (record (unbound scene ask) { theta = image u })))
    (step : (b c : Branch) (z : Target) (rest : List Target) (w : Way) → IsKept scene ask b → Q b → b.targets ≡ z ∷ rest
    → Contains (ways scene.system z.level (substitute b.theta z.term)) w → Leads scene b z rest w c → Q c)
    (solution : GeneralSolution) where
  abbrev Reached : Type 0
  Reached = (o : IsOutcome scene ask solution) × Q o.last

  mutual
    outcome : {b : Branch} {list : List GeneralSolution} {moves : ℕ} → Lists scene ask b list moves → IsKept scene ask b → Q b
        → Unifies b.theta ask.equations → Contains list solution → Reached
    outcome (gives {b = b} e r l n) kept has true' c =
        elim (in_cons solution (solution_of scene ask b) [] (subst (λ q. Contains q solution) l c)) [
          | inl d ↦ (record { last = b; kept = kept; solved = true'; no_target = e; respects = r; is = d }, has)
          | inr d ↦ absurd (in_none solution d)
        ]
    outcome (drops e r l n) kept has true' c = absurd (in_none solution (subst (λ q. Contains q solution) l c))
    outcome (goes_on {b = b} {z = z} {rest = rest} e h) kept has true' c = outcome_by h kept has true' e (λ w k. k) c

    outcome_by : {b : Branch} {z : Target} {rest : List Target} {ws : List Way} {list : List GeneralSolution} {moves : ℕ}
        → ListsBy scene ask b z rest ws list moves → IsKept scene ask b → Q b → Unifies b.theta ask.equations → b.targets ≡ z ∷ rest
        → ((w : Way) → Contains ws w → Contains (ways scene.system z.level (substitute b.theta z.term)) w) → Contains list solution → Reached
    outcome_by no_way kept has true' e among c = absurd (in_none solution c)
    outcome_by (leads {b = b} {c = next} {z = z} {rest = rest} {w = w} {ws = ws} {here = here} {others = others} g h t l n) kept has true' e among c =
        elim (in_append solution here others (subst (λ q. Contains q solution) l c)) [
          | inl k ↦
              let way = among w (in_head w ws) in
              outcome h (keep b next z rest w valid fits kept e way g) (step b next z rest w kept has e way g) (leads_unify scene ask b next z rest w g true') k
          | inr k ↦ outcome_by t kept has true' e (λ v i. among v (in_tail v w ws i)) k
        ]
    outcome_by (ends {i = i} {ws = ws} u t n) kept has true' e among c = outcome_by t kept has true' e (λ v k. among v (in_tail v (use_entry i) ws k)) c

  pub listed_have : {list : List GeneralSolution} {moves : ℕ} → Finds scene ask list moves → Contains list solution → (o : IsOutcome scene ask solution) × Q o.last
  listed_have (unsolvable u n) c = absurd (in_none solution c)
  listed_have (starts {u = u} {theta = theta} {bound = bound} {list = list} {moves = moves} h e m g t) c =
      let same = g ∙ ap (λ z. with_bound bound (record (unbound scene ask) { theta = z })) e in
      let newly = subst (λ z. AreNewlyBound scene.system.levels identity z bound) e m in
      outcome (subst (λ b. Lists scene ask b list moves) same t) (start_kept u bound valid fits h newly) (start u bound h newly)
      (unifies_after scene ask u bound h.unifies) c

pub listed_are_outcomes : (names : ℕ → Type 0) (scene : Scene) (ask : Ask) → StartIsKept names scene ask → WaysKeep names scene ask → ListedAreOutcomes names scene ask
listed_are_outcomes names scene ask start keep = λ list moves solution valid fits found listed.
    (listed_have names scene ask valid fits start keep (λ b. ⊤) (λ u bound h m. tt) (λ b c z rest w kept has e among leads. tt) solution found listed).0
