-- Most general unifiers of one pair.
use Rattle.std.proofs.Common.{◌≡◌, ℕ, List, [], ◌∷◌, ◌⊎◌, inl, inr, Some, None, refl, sym, ◌∙◌, ap, subst}
use Rattle.dps_terms.specs.Tree.{var, Tree, leaf, StandsIn, itself}
use Rattle.dps_terms.specs.Replace.{substitute}
use Rattle.dps_terms.specs.Bindings.{bound, image}
use Rattle.dps_unify.specs.Order.{Precedes}
use Rattle.dps_unify.specs.Unifier.{IsMgu}
use Rattle.dps_unify.proofs.Bound.{single, single_here, single_cases, image_none, image_some}
use Rattle.dps_unify.proofs.Pairs.{unifies_one, any_first}
use Rattle.dps_unify.proofs.Trees.{substitute_stays}

-- what is bound by one pair
bound_here : (x : ℕ) (t : Tree) (n : ℕ) (u : Tree) → bound (single x t) n ≡ Some u → (n ≡ x) × (u ≡ t)
bound_here x t n u e =
    elim (single_cases x t n) [
      | inl h ↦ (h.0, let d : Some u ≡ Some t = sym e ∙ h.1 in cc)
      | inr h ↦ let d : Some u ≡ None = sym e ∙ h.1 in cc
    ]

pub here : (x : ℕ) (t : Tree) → image (single x t) x ≡ t
here x t = image_some (single x t) x t (single_here x t)

pub elsewhere : (x : ℕ) (t : Tree) (n : ℕ) → (n ≡ x → ⊥) → image (single x t) n ≡ leaf (var n)
elsewhere x t n other =
    elim (single_cases x t n) [
      | inl h ↦ absurd (other h.0)
      | inr h ↦ image_none (single x t) n h.1
    ]

module _ (levels : List (ℕ × ℕ)) (x : ℕ) (t : Tree) (absent : ¬ StandsIn (var x) t) (first : (y : ℕ) → t ≡ leaf (var y) → Precedes levels y x) where
  stays : substitute (image (single x t)) t ≡ t
  stays = substitute_stays (image (single x t)) t (λ n k. elsewhere x t n (λ e. absent (subst (λ m. StandsIn (var m) t) e k)))

  general : (r : ℕ → Tree) → r x ≡ substitute r t → (n : ℕ) → substitute r (image (single x t) n) ≡ r n
  general r h n =
      elim (single_cases x t n) [
        | inl d ↦ ap (substitute r) (image_some (single x t) n t d.1) ∙ sym h ∙ ap r (sym d.0)
        | inr d ↦ ap (substitute r) (image_none (single x t) n d.1)
      ]

  idempotent : (n : ℕ) → substitute (image (single x t)) (image (single x t) n) ≡ image (single x t) n
  idempotent n =
      elim (single_cases x t n) [
        | inl d ↦ let e = image_some (single x t) n t d.1 in ap (substitute (image (single x t))) e ∙ stays ∙ sym e
        | inr d ↦ ap (substitute (image (single x t))) (image_none (single x t) n d.1)
      ]

  least : (n y : ℕ) → bound (single x t) n ≡ Some (leaf (var y)) → Precedes levels y n
  least n y e = let h = bound_here x t n (leaf (var y)) e in subst (λ m. Precedes levels y m) (sym h.0) (first y (sym h.1))

  -- a variable and a term that it does not stand in
  pub binds_left : IsMgu levels ((leaf (var x), t) ∷ []) (single x t)
  binds_left = record {
    unifies = (unifies_one (image (single x t)) (leaf (var x), t)).1 (here x t ∙ sym stays);
    general = λ r h n. general r ((unifies_one r (leaf (var x), t)).0 h) n;
    idempotent = idempotent;
    least = least;
    binds = λ n u e. any_first (λ (p : Tree × Tree). StandsIn (var n) p.0 ⊎ StandsIn (var n) p.1) (leaf (var x), t) []
        (inl (subst (λ m. StandsIn (var n) (leaf (var m))) (bound_here x t n u e).0 itself));
    holds = λ n u e m k. any_first (λ (p : Tree × Tree). StandsIn (var m) p.0 ⊎ StandsIn (var m) p.1) (leaf (var x), t) [] (inr (subst (λ v. StandsIn (var m) v) (bound_here x t n u e).1 k));
  }

  pub binds_right : IsMgu levels ((t, leaf (var x)) ∷ []) (single x t)
  binds_right = record {
    unifies = (unifies_one (image (single x t)) (t, leaf (var x))).1 (stays ∙ sym (here x t));
    general = λ r h n. general r (sym ((unifies_one r (t, leaf (var x))).0 h)) n;
    idempotent = idempotent;
    least = least;
    binds = λ n u e. any_first (λ (p : Tree × Tree). StandsIn (var n) p.0 ⊎ StandsIn (var n) p.1) (t, leaf (var x)) []
        (inr (subst (λ m. StandsIn (var n) (leaf (var m))) (bound_here x t n u e).0 itself));
    holds = λ n u e m k. any_first (λ (p : Tree × Tree). StandsIn (var m) p.0 ⊎ StandsIn (var m) p.1) (t, leaf (var x)) [] (inl (subst (λ v. StandsIn (var m) v) (bound_here x t n u e).1 k));
  }

-- equal terms
nothing_bound : (n : ℕ) (u : Tree) → bound [] n ≡ Some u → ⊥
nothing_bound n u e = cc

pub binds_none : (levels : List (ℕ × ℕ)) (t : Tree) → IsMgu levels ((t, t) ∷ []) []
binds_none levels t = record {
  unifies = (unifies_one (image []) (t, t)).1 refl;
  general = λ r h n. refl;
  idempotent = λ n. refl;
  least = λ n y e. absurd (nothing_bound n (leaf (var y)) e);
  binds = λ n u e. absurd (nothing_bound n u e);
  holds = λ n u e m k. absurd (nothing_bound n u e);
}
