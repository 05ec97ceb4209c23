-- Private names go by other numbers.
use Rattle.std.proofs.Common.{◌≡◌, ℕ, refl, sym, ap, subst}
use Rattle.std.specs.Prelude.{◌↔◌}
use Rattle.dps_terms.specs.Tree.{Leaf, public, private, var, ax, entry, rigid, Tree, leaf}
use Rattle.dps_terms.specs.Replace.{replace, private_names_to}
use Rattle.dps_terms.specs.Kinds.{IsName}
use Rattle.dps_terms.proofs.Replacing.{replace_undone}
use Rattle.dps_theory.specs.Theory.{Theory, HasPlainRules}
use Rattle.dps_theory.specs.Evaluation.{Evaluates, named}
use Rattle.dps_theory.specs.LawsOfEvaluation.{renumbered, PrivateNamesAreAlike}
use Rattle.dps_theory.proofs.Renaming.{replaced_evaluates, plain_rules_kept}

abbrev by : (ℕ → ℕ) → Leaf → Tree
by to x = private_names_to (λ n. leaf (private (to n))) x

renumbered_name : (theory : Theory) (to : ℕ → ℕ) (x : Leaf) → IsName x → Evaluates theory (by to x) (by to x)
renumbered_name theory to (public n) h = named tt
renumbered_name theory to (private n) h = named tt
renumbered_name theory to (rigid n) h = named tt
renumbered_name theory to (var n) h = absurd h
renumbered_name theory to (ax j) h = absurd h
renumbered_name theory to (entry i) h = absurd h

renumbered_evaluates : (theory : Theory) (to : ℕ → ℕ) (t v : Tree) → HasPlainRules theory → Evaluates theory t v → Evaluates theory (renumbered to t) (renumbered to v)
renumbered_evaluates theory to t v plain e =
    replaced_evaluates theory (by to) (plain_rules_kept theory (by to) plain (λ n. refl)) (renumbered_name theory to) e

leaf_back : (to back : ℕ → ℕ) → ((n : ℕ) → back (to n) ≡ n) → (x : Leaf) → replace (by back) (by to x) ≡ leaf x
leaf_back to back h (private n) = ap (λ k. leaf (private k)) (h n)
leaf_back to back h (public n) = refl
leaf_back to back h (var n) = refl
leaf_back to back h (ax j) = refl
leaf_back to back h (entry i) = refl
leaf_back to back h (rigid n) = refl

back_again : (to back : ℕ → ℕ) → ((n : ℕ) → back (to n) ≡ n) → (t : Tree) → renumbered back (renumbered to t) ≡ t
back_again to back h t = replace_undone (by to) (by back) t (λ x _. leaf_back to back h x)

pub private_names_are_alike : PrivateNamesAreAlike
private_names_are_alike = λ theory to back t v plain h. (
  renumbered_evaluates theory to t v plain,
  λ e.
      subst (λ u. Evaluates theory u v) (back_again to back h t)
      (subst (Evaluates theory (renumbered back (renumbered to t))) (back_again to back h v)
      (renumbered_evaluates theory back (renumbered to t) (renumbered to v) plain e)),
)
