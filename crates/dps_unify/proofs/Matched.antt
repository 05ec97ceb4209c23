-- Matching: one variable, and how the solution grows.
use Rattle.std.proofs.Common.{◌≡◌, ℕ, List, [], ◌∷◌, ◌++◌, length, Some, None, Option, refl, sym, ◌∙◌, ap, inl, inr, subst}
use Rattle.std.specs.Prelude.{Contains, IsSome}
use Rattle.dps_terms.specs.Tree.{var, Tree, leaf, StandsIn, IsSubterm, itself}
use Rattle.dps_terms.specs.Bindings.{bound, image}
use Rattle.dps_terms.specs.Views.{view_of, arguments, HaveSameRoot}
use Rattle.dps_terms.specs.declared.TermView.TheVariants.{Var}
use Rattle.dps_unify.specs.Matching.{IsMatch, Matched, Grows, Refused}
use Rattle.dps_unify.proofs.Trees.{alike_instance, in_leaf}
use Rattle.dps_terms.proofs.Subterms.{nested}
use Rattle.dps_unify.proofs.Bound.{cases_option, single_here, single_cases, bound-push_some, bound-push_none, image_none, image_some}

in_variable : (n m : ℕ) → StandsIn (var m) (leaf (var n)) → m ≡ n
in_variable n m k = let e = in_leaf (var n) (leaf (var m)) k in cc

-- a variable that is bound
module _ (free : List ℕ) (s : List (ℕ × Tree)) (x : ℕ) (t : Tree) where
  pub matched_bound : (v : Tree) → bound s x ≡ Some v → v ≡ t → Matched free s (leaf (var x)) t s
  matched_bound v b e = record {
    keeps = λ n w k. k;
    within = λ n w k. inl k;
    covers = λ n f k. (v, ap (bound s) (in_variable x n k) ∙ b);
    matches = λ r k g. g x v b ∙ e;
    forced = λ r k g h. g;
  }

  pub refused_bound : (v : Tree) → bound s x ≡ Some v → (v ≡ t → ⊥) → Refused free s (leaf (var x)) t
  refused_bound v b other r k g h = other (sym (g x v b) ∙ h)

  -- another variable
  pub matched_kept : ¬ Contains free x → t ≡ leaf (var x) → Matched free s (leaf (var x)) t s
  matched_kept f e = record {
    keeps = λ n w k. k;
    within = λ n w k. inl k;
    covers = λ n c k. absurd (f (subst (Contains free) (in_variable x n k) c));
    matches = λ r k g. k x f ∙ sym e;
    forced = λ r k g h. g;
  }

  pub refused_kept : ¬ Contains free x → (t ≡ leaf (var x) → ⊥) → Refused free s (leaf (var x)) t
  refused_kept f other r k g h = other (sym h ∙ k x f)

  -- a free variable that is not bound
  pub matched_new : (q : List (ℕ × Tree)) → bound s x ≡ None → Contains free x → q ≡ s ++ (x, t) ∷ [] → Matched free s (leaf (var x)) t q
  matched_new q b f d =
      let here : bound q x ≡ Some t = ap (λ l. bound l x) d ∙ bound-push_none s (x, t) x b ∙ single_here x t in
      record {
        keeps = λ n v k. ap (λ l. bound l n) d ∙ bound-push_some s (x, t) n v k;
        within = λ n v k.
            elim (cases_option (bound s n)) [
              | inl h ↦ elim (single_cases x t n) [
                | inl g ↦ inr (subst (Contains free) (sym g.0) f, subst (λ m. StandsIn (var n) (leaf (var m))) g.0 itself)
                | inr g ↦ let m : Some v ≡ None = sym k ∙ ap (λ l. bound l n) d ∙ bound-push_none s (x, t) n h ∙ g.1 in cc
              ]
              | inr h ↦
                  let m : Some v ≡ Some h.0 = sym k ∙ ap (λ l. bound l n) d ∙ bound-push_some s (x, t) n h.0 h.1 in inl (h.1 ∙ sym m)
            ];
        covers = λ n c k. (t, ap (bound q) (in_variable x n k) ∙ here);
        matches = λ r k g. g x t here;
        forced = λ r k g h n v e.
            elim (cases_option (bound s n)) [
              | inl o ↦ elim (single_cases x t n) [
                | inl c ↦
                    let m : Some v ≡ Some t = sym e ∙ ap (λ l. bound l n) d ∙ bound-push_none s (x, t) n o ∙ c.1 in
                    let w : t ≡ v = cc in ap r c.0 ∙ h ∙ w
                | inr c ↦ let m : Some v ≡ None = sym e ∙ ap (λ l. bound l n) d ∙ bound-push_none s (x, t) n o ∙ c.1 in cc
              ]
              | inr o ↦
                  let m : Some v ≡ Some o.0 = sym e ∙ ap (λ l. bound l n) d ∙ bound-push_some s (x, t) n o.0 o.1 in
                  let w : o.0 ≡ v = cc in g n o.0 o.1 ∙ w
            ];
      }

-- another root
pub refused_root : (free : List ℕ) (s : List (ℕ × Tree)) (p t : Tree) → ((m : ℕ) → view_of p ≡ Var m → ⊥) → (HaveSameRoot p t → ⊥) → Refused free s p t
refused_root free s p t non a r k g h =
    let b = alike_instance r p non in
    a (sym b.0 ∙ ap view_of h, sym b.1 ∙ ap (λ u. length (arguments u)) h)

-- the solution grows by free variables of the pattern
pub grows_none : (free : List ℕ) (s : List (ℕ × Tree)) (p : Tree) → Grows free s p s
grows_none free s p = record { keeps = λ n v e. e; within = λ n v e. inl e }

pub grows_matched : (free : List ℕ) (s q : List (ℕ × Tree)) (p t : Tree) → Matched free s p t q → Grows free s p q
grows_matched free s q p t m = record { keeps = m.keeps; within = m.within }

pub grows_more : (free : List ℕ) (s q r : List (ℕ × Tree)) (p v : Tree) → IsSubterm v p → Grows free s p q → Grows free q v r → Grows free s p r
grows_more free s q r p v inside g h = record {
  keeps = λ n w e. h.keeps n w (g.keeps n w e);
  within = λ n w e. elim (h.within n w e) [ inl o ↦ g.within n w o | inr o ↦ inr (o.0, nested o.1 inside) ];
}

-- from nothing bound
is_some_of : (o : Option Tree) (v : Tree) → o ≡ Some v → IsSome o
is_some_of o v e = subst IsSome (sym e) refl

pub match_found : (free : List ℕ) (p t : Tree) (s e : List (ℕ × Tree)) → e ≡ [] → Matched free e p t s → IsMatch p free t s
match_found free p t s e empty h =
    let inside : (n : ℕ) (v : Tree) → bound s n ≡ Some v → Contains free n × StandsIn (var n) p =
    λ n v b. elim (h.within n v b) [ inl o ↦ let k : None ≡ Some v = ap (λ l. bound l n) (sym empty) ∙ o in cc | inr o ↦ o ] in
    record {
      matches =
          h.matches (image s)
          (λ n out. elim (cases_option (bound s n)) [ inl b ↦ image_none s n b | inr b ↦ absurd (out (inside n b.0 b.1).0) ])
          (λ n v b. image_some s n v b);
      binds = λ n. (
        λ some. elim (cases_option (bound s n)) [ inl b ↦ let k = subst IsSome b some in cc | inr b ↦ inside n b.0 b.1 ],
        λ k. let b = h.covers n k.0 k.1 in is_some_of (bound s n) b.0 b.1,
      );
    }
