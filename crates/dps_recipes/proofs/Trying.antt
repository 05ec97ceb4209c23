-- The rules of one root.
use Rattle.std.proofs.Common.{◌≡◌, ℕ, zero, suc, ◌+◌, ◌<◌, ◌≤◌, List, [], ◌∷◌, length, get_or, Bool, true, false, nat_eq, if◌then◌else◌, refl, sym, ◌∙◌, ap, arith, inl, inr, subst, Some}
use Rattle.std.specs.Prelude.{slice_get, Contains, ◌⊎◌}
use Rattle.std.proofs.lemmas.Bool.{cases_Bool, cases_lt, eq-eqb}
use Rattle.std.proofs.lemmas.Option.{none-some, slice_get_within, get_or_from_slice_get}
use Rattle.dps_terms.specs.declared.Sym.{Sym}
use Rattle.dps_terms.specs.declared.borrowed.TermView.TheVariants.{App}
use Rattle.dps_terms.specs.Tree.{Leaf, public, private, var, ax, entry, rigid, Tree, Trees, leaf, app}
use Rattle.dps_terms.specs.Replace.{substitute}
use Rattle.dps_terms.specs.Views.{leaf_view}
use Rattle.dps_signature.specs.Signature.{Shape}
use Rattle.dps_theory.specs.Theory.{Rule, Theory, HasDestructorRoot, IsAccepted}
use Rattle.dps_theory.specs.Index.{has_root, places_from, places}
use Rattle.dps_theory.proofs.Accepting.{contained}
use Rattle.dps_recipes.specs.Reduction.{IsInstance, DoesNotFit, IsReduct, IsStuck, HasAllAt}

-- a leaf shows no symbol
pub no_app_leaf : (x : Leaf) (f : Sym) → App f ≡ leaf_view x → ⊥
no_app_leaf (public n) f v = cc
no_app_leaf (private n) f v = cc
no_app_leaf (var n) f v = cc
no_app_leaf (ax n) f v = cc
no_app_leaf (entry n) f v = cc
no_app_leaf (rigid n) f v = cc

-- a rule with another root does not fit
other_symbol : (by : ℕ → Tree) (h f : Sym) (us ts : Trees) → nat_eq h.number f.number ≡ false → substitute by (app h us) ≡ app f ts → ⊥
other_symbol by h f us ts other e =
    let one : h ≡ f = cc in
    let same : nat_eq h.number f.number ≡ true = eq-eqb h.number f.number (ap (λ (s : Sym). s.number) one) in
    let m : true ≡ false = sym same ∙ other in cc

other_root : (shapes : List Shape) (l : Tree) (f : Sym) (ts : Trees) → HasDestructorRoot shapes l → has_root f.number l ≡ false → (by : ℕ → Tree) → substitute by l ≡ app f ts → ⊥
other_root shapes (leaf x) f ts d other by e = d
other_root shapes (app h us) f ts d other by e = other_symbol by h f us ts other e

-- the places of one root
contains_first : (x : ℕ) (xs : List ℕ) → Contains (x ∷ xs) x
contains_first x xs = (0, omega arith, refl)

contains_later : (y x : ℕ) (xs : List ℕ) → Contains xs x → Contains (y ∷ xs) x
contains_later y x xs c = (suc c.0, (let l = c.1 in omega arith), c.2)

within_one :
    (b : Bool) (later : List ℕ) (m n k d : ℕ) → ((j : ℕ) → j < length later → get_or later j d < suc m + n) → k < length (if b then m ∷ later else later)
    → get_or (if b then m ∷ later else later) k d < m + suc n
within_one true later m n zero d h l = omega arith
within_one true later m n (suc j) d h l = omega (arith, h j (omega arith))
within_one false later m n k d h l = omega (arith, h k l)

places_within : (rules : List Rule) (m g k d : ℕ) → k < length (places_from m rules g) → get_or (places_from m rules g) k d < m + length rules
places_within [] m g k d h = absurd (omega arith)
places_within (r ∷ rules) m g k d h =
    within_one (has_root g r.left) (places_from (suc m) rules g) m (length rules) k d (λ j l. places_within rules (suc m) g j d l) h

places_there : (rules : List Rule) (m g k : ℕ) (r : Rule) → slice_get rules k ≡ Some r → has_root g r.left ≡ true → Contains (places_from m rules g) (m + k)
places_there [] m g k r e h = absurd (none-some r e)
places_there (q ∷ rules) m g zero r e h =
    let same : q ≡ r = cc in
    let root : has_root g q.left ≡ true = ap (λ (s : Rule). has_root g s.left) same ∙ h in
    let at : m + 0 ≡ m = omega arith in
    rw (root, at) (contains_first m (places_from (suc m) rules g))
places_there (q ∷ rules) m g (suc k) r e h =
    let later = places_there rules (suc m) g k r e h in
    let at : suc m + k ≡ m + suc k = omega arith in
    let found : Contains (places_from (suc m) rules g) (m + suc k) = subst (Contains (places_from (suc m) rules g)) at later in
    elim (cases_Bool (has_root g q.left)) [
      | inl b ↦ rw b (contains_later m (m + suc k) (places_from (suc m) rules g) found)
      | inr b ↦ rw b found
    ]

has_one : (rules : List Rule) (k : ℕ) (r : Rule) → slice_get rules k ≡ Some r → Contains rules r
has_one rules k r e = (k, slice_get_within rules k r e, get_or_from_slice_get rules k r r e)

-- the rules of an accepted theory that fit a symbol over terms stand at the places of this symbol
pub all_at_places :
    (theory : Theory) (f : Sym) (ts : Trees) (rules : List Rule) (at : List ℕ) → IsAccepted theory → rules ≡ theory.rules → at ≡ places theory.rules f.number
    → HasAllAt rules at (app f ts)
all_at_places theory f ts rules at accepted same found =
    subst (λ rs. HasAllAt rs at (app f ts)) (sym same)
    (subst (λ ps. HasAllAt theory.rules ps (app f ts)) (sym found)
    (record {
      within = λ k d h. omega (arith, places_within theory.rules 0 f.number k d h);
      others = λ k r e.
          elim (cases_Bool (has_root f.number r.left)) [
            | inl b ↦ inl (let z : 0 + k ≡ k = omega arith in subst (Contains (places theory.rules f.number)) z (places_there theory.rules 0 f.number k r e b))
            | inr b ↦ inr (other_root theory.shapes r.left f ts (accepted.root r (has_one theory.rules k r e)) b)
          ];
    }))

-- the rules at the first places do not fit
pub record Tried (rules : List Rule) (at : List ℕ) (t : Tree) (i : ℕ) : Type 0 where
  pub refused : (j : ℕ) → j < i → (r : Rule) → slice_get rules (get_or at j 0) ≡ Some r → DoesNotFit r t

pub tried_first : (rules : List Rule) (at : List ℕ) (t : Tree) → Tried rules at t 0
tried_first rules at t = record { refused = λ j h r e. absurd (omega arith) }

module _ (rules : List Rule) (at : List ℕ) (t : Tree) (i : ℕ) where
  pub tried_next : (r : Rule) → Tried rules at t i → slice_get rules (get_or at i 0) ≡ Some r → DoesNotFit r t → Tried rules at t (i + 1)
  tried_next r w here fails = record {
    refused = λ j h.
        elim (cases_lt j i) [
          | inl l ↦ go j (inl l)
          | inr l ↦ go j (inr (omega arith))
        ];
  }
    where
      go : (j : ℕ) → (j < i) ⊎ (j ≡ i) → (q : Rule) → slice_get rules (get_or at j 0) ≡ Some q → DoesNotFit q t
      go j (inl l) q e = w.refused j l q e
      go j (inr same) q e =
          let k : Some r ≡ Some q = sym here ∙ (ap (λ n. slice_get rules (get_or at n 0)) (sym same) ∙ e) in
          let m : r ≡ q = cc in subst (λ z. DoesNotFit z t) m fails

  pub tried_all : HasAllAt rules at t → Tried rules at t i → length at ≤ i → IsStuck rules t
  tried_all all w h rule listed =
      let place = contained rules rule listed in
      elim (all.others place.0 rule place.1) [
        | inl c ↦ w.refused c.0 (let l = c.1 in omega arith) rule (ap (slice_get rules) (other_default at c.0 0 place.0 c.1 ∙ c.2) ∙ place.1)
        | inr fails ↦ fails
      ]
    where
      other_default : (xs : List ℕ) (k c d : ℕ) → k < length xs → get_or xs k c ≡ get_or xs k d
      other_default [] k c d l = absurd (omega arith)
      other_default (x ∷ xs) zero c d l = refl
      other_default (x ∷ xs) (suc k) c d l = other_default xs k c d (omega arith)

-- the rule that fits
pub reduct_by : (rules : List Rule) (t v : Tree) (k : ℕ) (r : Rule) → slice_get rules k ≡ Some r → IsInstance r t v → IsReduct rules t v
reduct_by rules t v k r e i = record { rule = r; listed = has_one rules k r e; fits = i }
