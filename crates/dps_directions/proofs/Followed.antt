-- A solution is followed through the search, where each branch that it goes with has a way that it goes on with.
use Rattle.std.proofs.Common.{◌≡◌, ℕ, List, [], ◌∷◌, inl, inr, refl, sym, subst, Contains}
use Rattle.dps_terms.specs.Tree.{Tree}
use Rattle.dps_terms.specs.Replace.{substitute}
use Rattle.dps_unify.specs.Unifier.{Unifies}
use Rattle.dps_solver.specs.Scene.{Scene, Ask}
use Rattle.dps_solver.specs.declared.scene.Target.{Target}
use Rattle.dps_solver.specs.Search.{GeneralSolution, Branch, Way, use_entry, ways, Leads, Lists, gives, drops, goes_on, ListsBy, no_way, leads, ends, solution_of}
use Rattle.dps_directions.specs.Valid.{IsValid, Fits}
use Rattle.dps_directions.proofs.Invariant.{IsKept}
use Rattle.dps_directions.proofs.Course.{Course, GoesWith}
use Rattle.dps_directions.proofs.Steps.{IsReached}
use Rattle.dps_directions.proofs.Ahead.{NextWay, EndsRespect, GoesOn}
use Rattle.dps_know.proofs.Listing.{in_cons, in_head, in_tail, in_none, in_left, in_right}
use Rattle.dps_directions.proofs.Reaching.{leads_unify}
use Rattle.dps_directions.proofs.Ways.{ways_keep}

module _ (names : ℕ → Type 0) (scene : Scene) (ask : Ask) (valid : IsValid names scene) (fits : Fits scene ask) (course : Course names scene ask)
    (respect : EndsRespect names scene ask) (goes_ahead : GoesOn names scene ask) where
  more_listed : (here list : List GeneralSolution) → ((q : GeneralSolution) → Contains here q → Contains list q)
      → IsReached names scene ask course here → IsReached names scene ask course list
  more_listed here list f r = record {
    solution = r.solution;
    listed = f r.solution r.listed;
    outcome = r.outcome;
    eta = r.eta;
    psi = r.psi;
    goes = r.goes;
  }

  mutual
    reached : {b : Branch} {list : List GeneralSolution} {moves : ℕ} → Lists scene ask b list moves → IsKept scene ask b
        → Unifies b.theta ask.equations → (eta psi : ℕ → Tree) → GoesWith names scene ask course b eta psi → IsReached names scene ask course list
    reached (gives {b = b} e r l n) kept solved eta psi goes = record {
      solution = solution_of scene ask b;
      listed = subst (λ q. Contains q (solution_of scene ask b)) (sym l) (in_head (solution_of scene ask b) []);
      outcome = record { last = b; kept = kept; solved = solved; no_target = e; respects = r; is = refl };
      eta = eta;
      psi = psi;
      goes = goes;
    }
    reached (drops {b = b} e r l n) kept solved eta psi goes = absurd (r (respect course b eta psi valid fits kept goes e))
    reached (goes_on {b = b} {z = z} {rest = rest} e h) kept solved eta psi goes =
        let way = goes_ahead course b z rest eta psi valid fits kept e goes in reached_by h kept solved e way way.among (λ w k. k)

    reached_by : {b : Branch} {z : Target} {rest : List Target} {ws : List Way} {list : List GeneralSolution} {moves : ℕ}
        → ListsBy scene ask b z rest ws list moves → IsKept scene ask b → Unifies b.theta ask.equations → b.targets ≡ z ∷ rest
        → (way : NextWay names scene ask course b z rest) → Contains ws way.way
        → ((w : Way) → Contains ws w → Contains (ways scene.system z.level (substitute b.theta z.term)) w) → IsReached names scene ask course list
    reached_by no_way kept solved e way c all = absurd (in_none way.way c)
    reached_by (leads {b = b} {c = next} {z = z} {rest = rest} {w = w} {ws = ws} {list = list} {here = here} {others = others} m h t l n) kept solved e way c all =
        elim (in_cons way.way w ws c) [
          | inl d ↦
              let go = way.goes next (subst (λ v. Leads scene b z rest v next) (sym d) m) in
              more_listed here list (λ q k. subst (λ x. Contains x q) (sym l) (in_left q here others k))
              (reached h (ways_keep names scene ask b next z rest w valid fits kept e (all w (in_head w ws)) m) (leads_unify scene ask b next z rest w m solved) go.0 go.1 go.2)
          | inr k ↦
              more_listed others list (λ q j. subst (λ x. Contains x q) (sym l) (in_right q here others j))
              (reached_by t kept solved e way k (λ v i. all v (in_tail v w ws i)))
        ]
    reached_by (ends {b = b} {z = z} {rest = rest} {i = i} {ws = ws} never t n) kept solved e way c all =
        elim (in_cons way.way (use_entry i) ws c) [
          | inl d ↦ absurd (way.usable i d never)
          | inr k ↦ reached_by t kept solved e way k (λ v j. all v (in_tail v (use_entry i) ws j))
        ]

  pub follow_all : (b : Branch) (list : List GeneralSolution) (moves : ℕ) (eta psi : ℕ → Tree) → IsKept scene ask b → Unifies b.theta ask.equations
      → GoesWith names scene ask course b eta psi → Lists scene ask b list moves → IsReached names scene ask course list
  follow_all b list moves eta psi kept solved goes lists = reached lists kept solved eta psi goes
