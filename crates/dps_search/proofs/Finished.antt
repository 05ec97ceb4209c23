-- What a branch without targets gives.
use Rattle.std.proofs.Common.{◌≡◌, ℕ, zero, suc, ◌+◌, ◌≤◌, Bool, true, false, cond, nat_eq, List, [], ◌∷◌, ◌++◌, length, slice_get, take}
use Rattle.std.proofs.Common.{Option, Some, None, IsTrue, refl, sym, ◌∙◌, ap, arith, add-one}
use Rattle.std.specs.Prelude.{All, ◌↔◌, unwrap_or, filter, not}
use Rattle.std.proofs.lemmas.Bool.{eqb-true}
use Rattle.std.proofs.lemmas.Option.{none-some, slice_get_within}
use Rattle.dps_terms.specs.Tree.{var, Tree, leaf}
use Rattle.dps_terms.specs.Bindings.{bound, image, IsDistinct}
use Rattle.dps_terms.proofs.Bound.{unbound_before}
use Rattle.dps_know.proofs.Listing.{all_of}
use Rattle.dps_solver.specs.Scene.{Disequation}
use Rattle.dps_solver.specs.Solutions.{IsMatchedUnder}
use Rattle.dps_solver.specs.Matched.{IsExcluded}
use Rattle.dps_solver.proofs.Each.{all_in, contains_at, place_in, HoldsOfFirst}

-- pairs with a test on their variables
module _ (g : ℕ → Bool) where
  abbrev pub tested : List (ℕ × Tree) → List (ℕ × Tree)
  tested s = filter (λ (p : ℕ × Tree). g p.0) s

  out : (b : Bool) (p : ℕ × Tree) (s : List (ℕ × Tree)) (n : ℕ) → bound (cond b (p ∷ s) s) n ≡ cond b (cond (nat_eq n p.0) (Some p.1) (bound s n)) (bound s n)
  out true p s n = refl
  out false p s n = refl

  joined : (gp gn eq : Bool) (t : Tree) (rest full : Option Tree) → rest ≡ cond gn full None → (eq ≡ true → gp ≡ gn)
      → cond gp (cond eq (Some t) rest) rest ≡ cond gn (cond eq (Some t) full) None
  joined true true true t rest full e h = refl
  joined true true false t rest full e h = e
  joined true false true t rest full e h = let d : true ≡ false = h refl in cc
  joined true false false t rest full e h = e
  joined false true true t rest full e h = let d : false ≡ true = h refl in cc
  joined false true false t rest full e h = e
  joined false false true t rest full e h = e
  joined false false false t rest full e h = e

  none_either : (b : Bool) → (let o : Option Tree = None in o) ≡ cond b None None
  none_either true = refl
  none_either false = refl

  pub bound_tested : (s : List (ℕ × Tree)) (n : ℕ) → bound (tested s) n ≡ cond (g n) (bound s n) None
  bound_tested [] n = none_either (g n)
  bound_tested (p ∷ s) n =
      out (g p.0) p (tested s) n
      ∙ joined (g p.0) (g n) (nat_eq n p.0) p.1 (bound (tested s) n) (bound s n) (bound_tested s n) (λ e. ap g (sym (eqb-true n p.0 e)))

  imaged : (b : Bool) (o : Option Tree) (t : Tree) → unwrap_or (cond b o None) t ≡ cond b (unwrap_or o t) t
  imaged true o t = refl
  imaged false o t = refl

  pub image_tested : (s : List (ℕ × Tree)) → image (tested s) ≡ (λ x. cond (g x) (image s x) (leaf (var x)))
  image_tested s = λ i x. (ap (λ o. unwrap_or o (leaf (var x))) (bound_tested s x) ∙ imaged (g x) (bound s x) (leaf (var x))) i

  still_none : (b : Bool) (o : Option Tree) → o ≡ None → cond b o None ≡ None
  still_none true o e = e
  still_none false o e = refl

  pub tested_free : (s kept : List (ℕ × Tree)) (i n : ℕ) (t : Tree) → IsDistinct s → slice_get s i ≡ Some (n, t) → kept ≡ tested (take i s) → bound kept n ≡ None
  tested_free s kept i n t d there k =
      ap (λ r. bound r n) k ∙ bound_tested (take i s) n ∙ still_none (g n) (bound (take i s) n) (unbound_before s i (n, t) d there)

  over : (b : Bool) (q : ℕ × Tree) (s r : List (ℕ × Tree)) → cond b (q ∷ (s ++ r)) (s ++ r) ≡ cond b (q ∷ s) s ++ r
  over true q s r = refl
  over false q s r = refl

  next : (s : List (ℕ × Tree)) (i : ℕ) (p : ℕ × Tree) → slice_get s i ≡ Some p → tested (take (suc i) s) ≡ tested (take i s) ++ cond (g p.0) (p ∷ []) []
  next [] i p e = absurd (none-some p e)
  next (q ∷ s) zero p e = let d : q ≡ p = cc in ap (λ (o : ℕ × Tree). cond (g o.0) (o ∷ []) []) d
  next (q ∷ s) (suc i) p e =
      ap (λ r. cond (g q.0) (q ∷ r) r) (next s i p e) ∙ over (g q.0) q (tested (take i s)) (cond (g p.0) (p ∷ []) [])

  pub tested_more : (s kept more : List (ℕ × Tree)) (i n : ℕ) (t u : Tree) → kept ≡ tested (take i s) → slice_get s i ≡ Some (n, t) → g n ≡ true → u ≡ t
      → more ≡ kept ++ (n, u) ∷ [] → more ≡ tested (take (i + 1) s)
  tested_more s kept more i n t u k there yes_ same m =
      m ∙ (λ j. k j ++ (n, same j) ∷ []) ∙ ap (λ b. tested (take i s) ++ cond b ((n, t) ∷ []) []) (sym yes_) ∙ sym (next s i (n, t) there)
      ∙ ap (λ l. tested (take l s)) (sym (add-one i))

  nothing : (s : List (ℕ × Tree)) → s ++ [] ≡ s
  nothing [] = refl
  nothing (p ∷ s) = ap (λ r. p ∷ r) (nothing s)

  pub tested_same : (s kept : List (ℕ × Tree)) (i n : ℕ) (t : Tree) → kept ≡ tested (take i s) → slice_get s i ≡ Some (n, t) → g n ≡ false → kept ≡ tested (take (i + 1) s)
  tested_same s kept i n t k there no_ =
      k ∙ sym (nothing (tested (take i s))) ∙ ap (λ b. tested (take i s) ++ cond b ((n, t) ∷ []) []) (sym no_) ∙ sym (next s i (n, t) there)
      ∙ ap (λ l. tested (take l s)) (sym (add-one i))

-- what holds of each
pub all_first : {X : Type 0} (P : X → Type 0) (xs : List X) (i : ℕ) → HoldsOfFirst P xs i → length xs ≤ i → All P xs
all_first P xs i h l = all_of P xs (λ x c. let at = place_in xs x c in h at.0 x (omega (arith, l, slice_get_within xs at.0 x at.1)) at.1)

pub not_all : {X : Type 0} (P : X → Type 0) (xs : List X) (i : ℕ) (x : X) → slice_get xs i ≡ Some x → ¬ P x → ¬ All P xs
not_all P xs i x there not all = not (all_in P xs x all (contains_at xs i x there))

pub none_matched : (z : ℕ → Tree) (ds : List Disequation) → ¬ IsExcluded z ds → All (λ d. ¬ IsMatchedUnder z d) ds
none_matched z ds h = all_of (λ d. ¬ IsMatchedUnder z d) ds (λ d c m. h (c.0, d, c.1, c.2, m))

pub some_matched : (z : ℕ → Tree) (ds : List Disequation) → IsExcluded z ds → ¬ All (λ d. ¬ IsMatchedUnder z d) ds
some_matched z ds a all = all_in (λ d. ¬ IsMatchedUnder z d) ds a.1 all (a.0, a.2, a.3) a.4

pub not_iff : (b : Bool) (P : Type 0) → IsTrue b ↔ P → IsTrue (not b) ↔ (P → ⊥)
not_iff true P h = (λ e. let d : false ≡ true = e in cc, λ n. absurd (n (h.0 refl)))
not_iff false P h = (λ e p. let d : false ≡ true = h.1 p in cc, λ n. refl)
