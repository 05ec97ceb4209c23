-- Whether two terms evaluate to one value.
use Rattle.std.proofs.Common.{◌≡◌, sym, ◌∙◌, subst, Option, Some, None}
use Rattle.std.specs.Prelude.{◌↔◌, Bool, IsTrue, MatchOption}
use Rattle.dps_terms.specs.Tree.{Tree}
use Rattle.dps_theory.specs.Theory.{Theory, IsAccepted}
use Rattle.dps_theory.specs.Evaluation.{Evaluates, IsMessage, AreEqual}
use Rattle.dps_theory.proofs.Evaluating.{evaluates_once}

module _ (theory : Theory) where
  pub value_some : (t v : Tree) (o : Option Tree) → MatchOption o (¬ IsMessage theory t) (λ w. Evaluates theory t w) → o ≡ Some v → Evaluates theory t v
  value_some t v o m e = subst (λ (x : Option Tree). MatchOption x (¬ IsMessage theory t) (λ w. Evaluates theory t w)) e m

  pub equal_values : (t u v w : Tree) (b : Bool) → IsAccepted theory → Evaluates theory t v → Evaluates theory u w → (IsTrue b ↔ (v ≡ w)) → (IsTrue b ↔ AreEqual theory t u)
  equal_values t u v w b accepted e f s = (
    λ h. record { value = v; left = e; right = subst (λ (x : Tree). Evaluates theory u x) (sym (s.0 h)) f },
    λ a. s.1 (evaluates_once theory accepted e a.left ∙ evaluates_once theory accepted a.right f),
  )

  pub value_none : (t : Tree) (o : Option Tree) → MatchOption o (¬ IsMessage theory t) (λ w. Evaluates theory t w) → o ≡ None → ¬ IsMessage theory t
  value_none t o m e = subst (λ (x : Option Tree). MatchOption x (¬ IsMessage theory t) (λ w. Evaluates theory t w)) e m
