-- The cases of terms cover evaluation and equality.
use Rattle.std.proofs.Common.{◌≡◌, ℕ, ◌<◌, List, [], ◌∷◌, ◌++◌, map, sym, ◌∙◌, ap, subst, inl, inr, arith}
use Rattle.std.specs.Prelude.{◌⊎◌, ◌↔◌, Contains, ⊤}
use Rattle.std.proofs.lemmas.List.Elements.{All-nil, All-cons, All-head, All-append}
use Rattle.dps_terms.specs.Tree.{var, Tree, none, more, trees, StandsIn}
use Rattle.dps_terms.specs.Replace.{substitute, substitute_all}
use Rattle.dps_signature.specs.Kinds.{IsPlain}
use Rattle.dps_unify.specs.Unifier.{Unifies}
use Rattle.dps_unify.proofs.Trees.{substitute_agrees}
use Rattle.dps_theory.specs.Theory.{Theory, IsAccepted}
use Rattle.dps_theory.specs.Evaluation.{Evaluates, EvaluateAll, a_term, AreEqual}
use Rattle.dps_symeval.specs.Cases.{Case, Choices, choices, result_of, as_case, cases, equal_with, equal_cases, SomeCaseHolds, ClosesTerm, IsPruned, all_seen, keeps, leaves_out}
use Rattle.dps_symeval.proofs.Listed.{contains_first, contains_later, contains_cases, mapped, from_mapped, joined, from_joined, all_left, all_right}
use Rattle.dps_symeval.proofs.Sound.{sound}
use Rattle.dps_symeval.proofs.Complete.{complete, agreeing_unify, agreeing_all}

-- the one result
one_result : (y : ℕ → Tree) (t v : Tree) (rs : List Tree) → substitute_all y (trees rs) ≡ more v none → substitute y (result_of rs t) ≡ v
one_result y t v [] e = cc
one_result y t v (r ∷ rs) e = cc

one_evaluates : (theory : Theory) (y : ℕ → Tree) (u t : Tree) (rs : List Tree) → EvaluateAll theory (more u none) (substitute_all y (trees rs)) → Evaluates theory u (substitute y (result_of rs t))
one_evaluates theory y u t [] h = elim h [ ]
one_evaluates theory y u t (r ∷ rs) (a_term a h) = a

module _ (theory : Theory) (accepted : IsAccepted theory) (next : ℕ) (z : ℕ → Tree) where
  -- a case of the term that holds
  pub evaluates_by :
      (t : Tree) (from : ℕ) (y : ℕ → Tree) (c : Choices) → ClosesTerm theory next t z
      → ((x : ℕ) → StandsIn (var x) t → y x ≡ z x) → Contains (choices theory from t) c → Unifies y c.equations
      → Evaluates theory (substitute z t) (substitute y (result_of c.results t))
  evaluates_by t from y c closes agree listed u =
      subst (λ w. Evaluates theory w (substitute y (result_of c.results t))) (substitute_agrees y z t agree)
      (one_evaluates theory y (substitute y t) t c.results
      (sound theory accepted y from t c closes.over (λ n k. subst (IsPlain theory.shapes) (sym (agree n k)) (closes.messages n k)) listed u))

  module _ (old : ℕ → Type 0) (new : (x : ℕ) → old x → x < next) where
    module _ (t v : Tree) (closes : ClosesTerm theory next t z) (holds : (x : ℕ) → StandsIn (var x) t → old x) where
      case_there : Evaluates theory (substitute z t) v → SomeCaseHolds (cases theory next t) old z (λ r. r ≡ v)
      case_there e =
          let c = complete theory accepted z next t v closes.over closes.below closes.messages e in
          record {
            used = as_case t c.used;
            listed = mapped (as_case t) (choices theory next t) c.used c.listed;
            values = c.values;
            agree = λ x k. c.agree x (new x k);
            equations = c.equations;
            result = one_result c.values t v c.used.results c.results;
          }

      case_back : SomeCaseHolds (cases theory next t) old z (λ r. r ≡ v) → Evaluates theory (substitute z t) v
      case_back h =
          let d = from_mapped (as_case t) (choices theory next t) h.used h.listed in
          let e = evaluates_by t next h.values d.0 closes (λ x k. h.agree x (holds x k)) d.1 (subst (λ (c : Case). Unifies h.values c.equations) d.2 h.equations) in
          subst (λ w. Evaluates theory (substitute z t) w) (ap (λ (c : Case). substitute h.values c.result) (sym d.2) ∙ h.result) e

      pub cases_cover_within : Evaluates theory (substitute z t) v ↔ SomeCaseHolds (cases theory next t) old z (λ r. r ≡ v)
      cases_cover_within = (case_there, case_back)

  -- both sides of an equality, by the listed case
  pub equal_by :
      (t u : Tree) (y : ℕ → Tree) (c : Case) → ClosesTerm theory next t z → ClosesTerm theory next u z
      → ((x : ℕ) → StandsIn (var x) t ⊎ StandsIn (var x) u → y x ≡ z x) → Contains (equal_cases theory next t u) c
      → Unifies y c.equations
      → Evaluates theory (substitute z t) (substitute y c.result) × Evaluates theory (substitute z u) (substitute y c.result)
  equal_by t u y c ct cu agree listed eqs =
      let d = from_joined (λ c. map (equal_with t c u) (choices theory c.next u)) (choices theory next t) c listed in
      let m = from_mapped (equal_with t d.0 u) (choices theory d.0.next u) c d.2 in
      let P : Tree × Tree → Type 0 = λ p. substitute y p.0 ≡ substitute y p.1 in
      let rt : Tree = result_of d.0.results t in
      let ru : Tree = result_of m.0.results u in
      let all : Unifies y (d.0.equations ++ (m.0.equations ++ (rt, ru) ∷ [])) = subst (λ (c : Case). Unifies y c.equations) m.2 eqs in
      let later : Unifies y (m.0.equations ++ (rt, ru) ∷ []) = all_right P d.0.equations (m.0.equations ++ (rt, ru) ∷ []) all in
      let one : substitute y rt ≡ substitute y ru = All-head P (rt, ru) [] (all_right P m.0.equations ((rt, ru) ∷ []) later) in
      let first = evaluates_by t next y d.0 ct (λ x k. agree x (inl k)) d.1 (all_left P d.0.equations (m.0.equations ++ (rt, ru) ∷ []) all) in
      let second = evaluates_by u d.0.next y m.0 cu (λ x k. agree x (inr k)) m.1 (all_left P m.0.equations ((rt, ru) ∷ []) later) in
      let is : substitute y c.result ≡ substitute y rt = ap (λ (c : Case). substitute y c.result) m.2 in
      (subst (λ w. Evaluates theory (substitute z t) w) (sym is) first, subst (λ w. Evaluates theory (substitute z u) w) (sym (is ∙ one)) second)

  module _ (old : ℕ → Type 0) (new : (x : ℕ) → old x → x < next) where
    module _ (t u : Tree) (ct : ClosesTerm theory next t z) (cu : ClosesTerm theory next u z) (holds : (x : ℕ) → StandsIn (var x) t ⊎ StandsIn (var x) u → old x) where
      equal_there : AreEqual theory (substitute z t) (substitute z u) → SomeCaseHolds (equal_cases theory next t u) old z (λ r. ⊤)
      equal_there h =
          let v = h.value in
          let a = complete theory accepted z next t v ct.over ct.below ct.messages h.left in
          let same : (x : ℕ) → StandsIn (var x) u → a.values x ≡ z x = λ x k. a.agree x (cu.below x k) in
          let b = complete theory accepted a.values a.used.next u v cu.over (λ x k. omega (arith, cu.below x k, a.grows)) (λ x k. subst (IsPlain theory.shapes) (sym (same x k)) (cu.messages x k))
          (subst (λ w. Evaluates theory w v) (sym (substitute_agrees a.values z u same)) h.right) in
          let P : Tree × Tree → Type 0 = λ p. substitute b.values p.0 ≡ substitute b.values p.1 in
          let rt : Tree = result_of a.used.results t in
          let ru : Tree = result_of b.used.results u in
          let is_t : substitute b.values rt ≡ v = one_result b.values t v a.used.results (agreeing_all b.values a.values a.used.next a.used.results b.agree a.results_below ∙ a.results) in
          let is_u : substitute b.values ru ≡ v = one_result b.values u v b.used.results b.results in
          let used : Case = equal_with t a.used u b.used in
          record {
            used = used;
            listed =
                joined (λ c. map (equal_with t c u) (choices theory c.next u)) (choices theory next t) a.used used a.listed
                (mapped (equal_with t a.used u) (choices theory a.used.next u) b.used b.listed);
            values = b.values;
            agree = λ x k. b.agree x (omega (arith, new x k, a.grows)) ∙ a.agree x (new x k);
            equations =
                All-append P a.used.equations (b.used.equations ++ (rt, ru) ∷ []) (agreeing_unify b.values a.values a.used.next a.used.equations b.agree a.equations_below a.equations)
                (All-append P b.used.equations ((rt, ru) ∷ []) b.equations (All-cons P (rt, ru) [] (is_t ∙ sym is_u) (All-nil P)));
            result = tt;
          }

      equal_back : SomeCaseHolds (equal_cases theory next t u) old z (λ r. ⊤) → AreEqual theory (substitute z t) (substitute z u)
      equal_back h =
          let both = equal_by t u h.values h.used ct cu (λ x k. h.agree x (holds x k)) h.listed h.equations in
          record { value = substitute h.values h.used.result; left = both.0; right = both.1 }

      pub equal_cases_cover_within : AreEqual theory (substitute z t) (substitute z u) ↔ SomeCaseHolds (equal_cases theory next t u) old z (λ r. ⊤)
      equal_cases_cover_within = (equal_there, equal_back)

  pub cases_cover : (t v : Tree) → ClosesTerm theory next t z → Evaluates theory (substitute z t) v ↔ SomeCaseHolds (cases theory next t) (λ x. StandsIn (var x) t) z (λ r. r ≡ v)
  cases_cover t v closes = cases_cover_within (λ x. StandsIn (var x) t) (λ x k. closes.below x k) t v closes (λ x k. k)

  pub equal_cases_cover :
      (t u : Tree) → ClosesTerm theory next t z → ClosesTerm theory next u z
      → AreEqual theory (substitute z t) (substitute z u) ↔ SomeCaseHolds (equal_cases theory next t u) (λ x. StandsIn (var x) t ⊎ StandsIn (var x) u) z (λ r. ⊤)
  equal_cases_cover t u ct cu =
      equal_cases_cover_within (λ x. StandsIn (var x) t ⊎ StandsIn (var x) u) (λ x. elim [ inl k ↦ ct.below x k | inr k ↦ cu.below x k ]) t u ct cu (λ x k. k)

-- what is left out never holds
pruned_contains : {all kept : List Case} → IsPruned all kept → (c : Case) (y : ℕ → Tree) → Unifies y c.equations → Contains all c → Contains kept c
pruned_contains all_seen c y u h = h
pruned_contains (keeps {c = d} {all} {kept} p) c y u h =
    elim (contains_cases d all c h) [
      | inl e ↦ subst (λ (k : Case). Contains (d ∷ kept) k) (sym e) (contains_first d kept)
      | inr k ↦ contains_later d kept c (pruned_contains p c y u k)
    ]
pruned_contains (leaves_out {c = d} {all} {kept} n p) c y u h =
    elim (contains_cases d all c h) [
      | inl e ↦ absurd (n y (subst (λ (k : Case). Unifies y k.equations) e u))
      | inr k ↦ pruned_contains p c y u k
    ]

kept_contained : {all kept : List Case} → IsPruned all kept → (c : Case) → Contains kept c → Contains all c
kept_contained all_seen c h = h
kept_contained (keeps {c = d} {all} {kept} p) c h =
    elim (contains_cases d kept c h) [
      | inl e ↦ subst (λ (k : Case). Contains (d ∷ all) k) (sym e) (contains_first d all)
      | inr k ↦ contains_later d all c (kept_contained p c k)
    ]
kept_contained (leaves_out {c = d} {all} {kept} n p) c h = contains_later d all c (kept_contained p c h)

pub pruned_cover : (all kept : List Case) (old : ℕ → Type 0) (z : ℕ → Tree) (gives : Tree → Type 0) → IsPruned all kept → SomeCaseHolds all old z gives ↔ SomeCaseHolds kept old z gives
pruned_cover all kept old z gives p = (
  λ h. record { used = h.used; listed = pruned_contains p h.used h.values h.equations h.listed; values = h.values; agree = h.agree; equations = h.equations; result = h.result },
  λ h. record { used = h.used; listed = kept_contained p h.used h.listed; values = h.values; agree = h.agree; equations = h.equations; result = h.result },
)

pub pruned_cases_cover :
    (theory : Theory) (next : ℕ) (t v : Tree) (z : ℕ → Tree) (kept : List Case) → IsAccepted theory → ClosesTerm theory next t z
    → IsPruned (cases theory next t) kept
    → Evaluates theory (substitute z t) v ↔ SomeCaseHolds kept (λ x. x < next) z (λ r. r ≡ v)
pruned_cases_cover theory next t v z kept accepted closes p =
    let all = cases_cover_within theory accepted next z (λ x. x < next) (λ x l. l) t v closes (λ x k. closes.below x k) in
    let left = pruned_cover (cases theory next t) kept (λ x. x < next) z (λ r. r ≡ v) p in
    (λ e. left.0 (all.0 e), λ h. all.1 (left.1 h))

pub pruned_equal_cases_cover :
    (theory : Theory) (next : ℕ) (t u : Tree) (z : ℕ → Tree) (kept : List Case) → IsAccepted theory → ClosesTerm theory next t z
    → ClosesTerm theory next u z → IsPruned (equal_cases theory next t u) kept
    → AreEqual theory (substitute z t) (substitute z u) ↔ SomeCaseHolds kept (λ x. x < next) z (λ r. ⊤)
pruned_equal_cases_cover theory next t u z kept accepted ct cu p =
    let all = equal_cases_cover_within theory accepted next z (λ x. x < next) (λ x l. l) t u ct cu (λ x. elim [ inl k ↦ ct.below x k | inr k ↦ cu.below x k ]) in
    let left = pruned_cover (equal_cases theory next t u) kept (λ x. x < next) z (λ r. ⊤) p in
    (λ e. left.0 (all.0 e), λ h. all.1 (left.1 h))
