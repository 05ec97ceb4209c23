-- What the answers of the single questions say.
use Rattle.std.proofs.Common.{◌≡◌, ℕ, ◌<◌, List, [], ◌∷◌, map, refl, sym, ◌∙◌, ap, subst, inl, inr, Option, Some, None}
use Rattle.std.specs.Prelude.{◌⊎◌, ◌≢◌, Contains, ⊤}
use Rattle.std.proofs.lemmas.List.Elements.{All-nil, All-cons, All-head}
use Rattle.dps_terms.specs.Tree.{var, Tree, leaf, StandsIn}
use Rattle.dps_terms.specs.Replace.{substitute, put_entries}
use Rattle.dps_unify.specs.Order.{level_of}
use Rattle.dps_unify.specs.Unifier.{Unifies}
use Rattle.dps_unify.proofs.Trees.{substitute_in_turn, substitute_agrees}
use Rattle.dps_theory.specs.Theory.{Theory, IsAccepted}
use Rattle.dps_theory.specs.Evaluation.{Evaluates, AreEqual, IsMessage}
use Rattle.dps_solver.specs.Levels.{IsGroundUpTo, AnyRigidName}
use Rattle.dps_solver.specs.Solutions.{valued, MeetsBy}
use Rattle.dps_symeval.specs.Cases.{Case, cases, equal_cases, SomeCaseHolds}
use Rattle.dps_symeval.proofs.Listed.{contains_one, contains_first, mapped, from_mapped}
use Rattle.dps_symeval.proofs.Covering.{cases_cover, cases_cover_within, equal_cases_cover, equal_cases_cover_within}
use Rattle.dps_node.specs.Node.{SymbolicConfig, Node, variables_of, scene_of}
use Rattle.dps_node.specs.Questions.{Query, Found, value_of, first_free, of_case, test, eval, equal, tree}
use Rattle.dps_node.specs.Truth.{HoldsUnder, IsDecided, IsUnder, IsTermUnder, Tells}
use Rattle.dps_node.proofs.Truth.{is_before_new, false_holds_never, IsUsed, is_used, filled, meets_here}

module _ (names : ℕ → Type 0) (node : Node) (c : SymbolicConfig) (s : ℕ → Tree) (g : List Tree) where
  -- a case that holds makes its question hold
  pub case_holds : (list : List Case) (gives : Tree → Type 0) → SomeCaseHolds list (λ x. x < first_free node) (valued g s) gives → HoldsUnder (scene_of node c) (map of_case list) s g
  case_holds list gives h = record {
    query = of_case h.used;
    asked = mapped of_case list h.used h.listed;
    eta = h.values;
    trees = [];
    meets = record { agrees = λ x l e. h.agree x (is_before_new node x l e); equations = h.equations; targets = tt };
  }

  module _ (list : List Case) (under : IsUnder names node c (map of_case list) s g) (used : Found) (d : IsDecided node c (map of_case list) (Some used)) where
    abbrev eta : ℕ → Tree
    eta x = substitute (valued g s) (used.1.theta x)

    is : IsUsed (scene_of node c) (map of_case list) used
    is = is_used node c (map of_case list) used d

    -- the used case holds, with the values of theta
    pub used_case : (k : Case) × Contains list k × (used.0 ≡ of_case k)
    used_case = from_mapped of_case list used.0 is.at.asked

    pub used_meets : (ts : List Tree) × MeetsBy (scene_of node c) used.0.ask s g eta ts
    used_meets =
        (map (substitute (filled names node c (map of_case list) s g under)) used.1.answers, meets_here names node c (map of_case list) s g under used is (ap (λ (q : Query). q.ask.targets) used_case.2))

    pub used_agrees : (x l : ℕ) → level_of (variables_of node) x ≡ Some l → eta x ≡ valued g s x
    used_agrees x l e = used_meets.1.agrees x l e

    pub used_unifies : Unifies eta used_case.0.equations
    used_unifies = subst (λ (q : Query). Unifies eta q.ask.equations) used_case.2 used_meets.1.equations

    pub used_value : substitute eta used_case.0.result ≡ substitute (valued g s) (value_of used)
    used_value = ap (λ (q : Query). substitute eta q.result) (sym used_case.2) ∙ sym (substitute_in_turn (valued g s) used.1.theta used.0.result)

module _ (names : ℕ → Type 0) (theory : Theory) (node : Node) (c : SymbolicConfig) (s : ℕ → Tree) (g : List Tree) (accepted : IsAccepted theory) where
  pub test_tells :
      (u v : Tree) (o : Option Found) → IsUnder names node c (test theory node u v) s g
      → IsDecided node c (test theory node u v) o → IsTermUnder theory node (valued g s) u
      → IsTermUnder theory node (valued g s) v
      → Tells o (λ used. AreEqual theory (substitute (valued g s) u) (substitute (valued g s) v)) (¬ AreEqual theory (substitute (valued g s) u) (substitute (valued g s) v))
  test_tells u v (Some used) under d hu hv =
      let list : List Case = equal_cases theory (first_free node) u v in
      let k = used_case names node c s g list under used d in
      (equal_cases_cover theory accepted (first_free node) (valued g s) u v hu.closes hv.closes).1
      (record {
        used = k.0;
        listed = k.1;
        values = λ x. substitute (valued g s) (used.1.theta x);
        agree = λ x. elim [
          | inl m ↦ let l = hu.known x m in used_agrees names node c s g list under used d x l.0 l.1
          | inr m ↦ let l = hv.known x m in used_agrees names node c s g list under used d x l.0 l.1
        ];
        equations = used_unifies names node c s g list under used d;
        result = tt;
      })
  test_tells u v None under d hu hv = λ e.
      let list : List Case = equal_cases theory (first_free node) u v in
      false_holds_never names node c (map of_case list) s g under d
      (case_holds names node c s g list (λ r. ⊤)
      ((equal_cases_cover_within theory accepted (first_free node) (valued g s) (λ x. x < first_free node) (λ x l. l) u v hu.closes hv.closes (λ x. elim [ inl k ↦ hu.closes.below x k | inr k ↦ hv.closes.below x k ])).0 e))

  pub eval_tells :
      (u : Tree) (o : Option Found) → IsUnder names node c (eval theory node u) s g → IsDecided node c (eval theory node u) o
      → IsTermUnder theory node (valued g s) u
      → Tells o (λ used. Evaluates theory (substitute (valued g s) u) (substitute (valued g s) (value_of used))) (¬ IsMessage theory (substitute (valued g s) u))
  eval_tells u (Some used) under d hu =
      let list : List Case = cases theory (first_free node) u in
      let k = used_case names node c s g list under used d in
      (cases_cover theory accepted (first_free node) (valued g s) u (substitute (valued g s) (value_of used)) hu.closes).1
      (record {
        used = k.0;
        listed = k.1;
        values = λ x. substitute (valued g s) (used.1.theta x);
        agree = λ x m. let l = hu.known x m in used_agrees names node c s g list under used d x l.0 l.1;
        equations = used_unifies names node c s g list under used d;
        result = used_value names node c s g list under used d;
      })
  eval_tells u None under d hu = λ e.
      let list : List Case = cases theory (first_free node) u in
      false_holds_never names node c (map of_case list) s g under d
      (case_holds names node c s g list (λ r. r ≡ e.0)
      ((cases_cover_within theory accepted (first_free node) (valued g s) (λ x. x < first_free node) (λ x l. l) u e.0 hu.closes (λ x k. hu.closes.below x k)).0 e.1))

module _ (names : ℕ → Type 0) (node : Node) (c : SymbolicConfig) (s : ℕ → Tree) (g : List Tree) where
  pub equal_tells :
      (t u : Tree) (o : Option Found) → IsUnder names node c (equal t u) s g → IsDecided node c (equal t u) o
      → ((x : ℕ) → StandsIn (var x) t ⊎ StandsIn (var x) u → (l : ℕ) × (level_of (variables_of node) x ≡ Some l))
      → Tells o (λ used. substitute (valued g s) t ≡ substitute (valued g s) u) (substitute (valued g s) t ≢ substitute (valued g s) u)
  equal_tells t u (Some used) under d known =
      let is : IsUsed (scene_of node c) (equal t u) used = is_used node c (equal t u) used d in
      let q : Query = record { ask = record { equations = (t, u) ∷ []; targets = [] }; result = t } in
      let one : used.0 ≡ q = contains_one q used.0 is.at.asked in
      let m = meets_here names node c (equal t u) s g under used is (ap (λ (q : Query). q.ask.targets) one) in
      let eta : ℕ → Tree = λ x. substitute (valued g s) (used.1.theta x) in
      let e : Unifies eta ((t, u) ∷ []) = subst (λ (q : Query). Unifies eta q.ask.equations) one m.equations in
      sym (substitute_agrees eta (valued g s) t (λ x k. let l = known x (inl k) in m.agrees x l.0 l.1))
      ∙ (All-head (λ p. substitute eta p.0 ≡ substitute eta p.1) (t, u) [] e
      ∙ substitute_agrees eta (valued g s) u (λ x k. let l = known x (inr k) in m.agrees x l.0 l.1))
  equal_tells t u None under d known = λ e.
      let q : Query = record { ask = record { equations = (t, u) ∷ []; targets = [] }; result = t } in
      false_holds_never names node c (equal t u) s g under d
      (record {
        query = q;
        asked = contains_first q [];
        eta = valued g s;
        trees = [];
        meets = record {
          agrees = λ x l k. refl;
          equations = All-cons (λ p. substitute (valued g s) p.0 ≡ substitute (valued g s) p.1) (t, u) [] e (All-nil (λ p. substitute (valued g s) p.0 ≡ substitute (valued g s) p.1));
          targets = tt;
        };
      })

  pub tree_false :
      (t u : Tree) → IsUnder names node c (tree node t) s g → IsDecided node c (tree node t) None
      → IsGroundUpTo AnyRigidName node.m node.know node.m u → put_entries g u ≢ substitute (valued g s) t
  tree_false t u under d ground e =
      let z : ℕ = first_free node in
      let q : Query = record { ask = record { equations = []; targets = record { name = z; level = node.m; term = t } ∷ [] }; result = leaf (var z) } in
      false_holds_never names node c (tree node t) s g under d
      (record {
        query = q;
        asked = contains_first q [];
        eta = valued g s;
        trees = u ∷ [];
        meets = record {
          agrees = λ x l k. refl;
          equations = All-nil (λ p. substitute (valued g s) p.0 ≡ substitute (valued g s) p.1);
          targets = ((ground, e), tt);
        };
      })
