-- Static equivalence is an equivalence, and one of values under an accepted theory.
use Rattle.std.proofs.Common.{◌≡◌, ℕ, zero, suc, ◌<◌, ◌≤◌, List, [], ◌∷◌, length, take, min, refl, sym, ◌∙◌, ap, subst, inl, inr, arith}
use Rattle.std.specs.Prelude.{◌↔◌, slice_get, unwrap_or}
use Rattle.std.proofs.lemmas.List.{length-take}
use Rattle.dps_terms.specs.Tree.{Leaf, public, private, var, ax, entry, rigid, Tree, leaf}
use Rattle.dps_terms.specs.Replace.{in_frame, handles_to, numbered}
use Rattle.dps_signature.specs.Signature.{Signature, HasArity, shapes}
use Rattle.dps_signature.specs.Kinds.{IsRecipe, IsRecipeLeaf}
use Rattle.dps_terms.proofs.Replacing.{replace_agrees}
use Rattle.dps_terms.proofs.Building.{leaf_meets, built_weaker}
use Rattle.dps_theory.specs.Theory.{Theory, IsAccepted}
use Rattle.dps_theory.specs.Evaluation.{IsMessage, AreEqual}
use Rattle.dps_theory.specs.Frames.{HasValue, HaveOneValue, AreStaticallyEquivalent, Test, succeeds, equal, Separates, AreToldApart}
use Rattle.dps_theory.specs.Laws.{AgreeOnValues}
use Rattle.dps_theory.proofs.Evaluating.{evaluates_once}

module _ (signature : Signature) (theory : Theory) where
  pub reflexive : (frame : List Tree) → AreStaticallyEquivalent signature theory frame frame
  reflexive frame = record {
    same_length = refl;
    same_successes = λ r h. (λ s. s, λ s. s);
    same_equalities = λ r s h k. (λ e. e, λ e. e);
  }

  other_length : (first second : List Tree) → length first ≡ length second → (r : Tree) → IsRecipe signature (length second) r → IsRecipe signature (length first) r
  other_length first second e r h = subst (λ m. IsRecipe signature m r) (sym e) h

  pub symmetric : (first second : List Tree) → AreStaticallyEquivalent signature theory first second → AreStaticallyEquivalent signature theory second first
  symmetric first second e = record {
    same_length = sym e.same_length;
    same_successes = λ r h. (let p = e.same_successes r (other_length first second e.same_length r h) in (p.1, p.0));
    same_equalities = λ r s h k. (let p = e.same_equalities r s (other_length first second e.same_length r h) (other_length first second e.same_length s k) in (p.1, p.0));
  }

  pub transitive :
      (first second third : List Tree) → AreStaticallyEquivalent signature theory first second → AreStaticallyEquivalent signature theory second third
      → AreStaticallyEquivalent signature theory first third
  transitive first second third d e = record {
    same_length = d.same_length ∙ e.same_length;
    same_successes = λ r h. (let p = d.same_successes r h in let q = e.same_successes r (other_length second first (sym d.same_length) r h) in (λ s. q.0 (p.0 s), λ s. p.1 (q.1 s)));
    same_equalities = λ r s h k. (let p = d.same_equalities r s h k in let q = e.same_equalities r s (other_length second first (sym d.same_length) r h) (other_length second first (sym d.same_length) s k) in (λ x. q.0 (p.0 x), λ x. p.1 (q.1 x)));
  }

  pub separated : (first second : List Tree) (test : Test) → AreStaticallyEquivalent signature theory first second → Separates signature theory first second test → ⊥
  separated first second (succeeds r) e s = s.fails ((e.same_successes r s.over).0 s.holds)
  separated first second (equal r q) e s = s.fails ((e.same_equalities r q s.over.0 s.over.1).0 s.holds)

  pub not_told_apart : (first second : List Tree) → AreToldApart signature theory first second → AreStaticallyEquivalent signature theory first second → ⊥
  not_told_apart first second t e = elim t.1 [ inl s ↦ separated first second t.0 e s | inr s ↦ separated second first t.0 (symmetric first second e) s ]

-- a shorter frame
slice_get-take : (n k : ℕ) (ts : List Tree) → k < length (take n ts) → slice_get (take n ts) k ≡ slice_get ts k
slice_get-take zero k ts h = absurd (omega arith)
slice_get-take (suc n) k [] h = absurd (omega arith)
slice_get-take (suc n) zero (t ∷ ts) h = refl
slice_get-take (suc n) (suc k) (t ∷ ts) h = slice_get-take n k ts (omega arith)

numbered-take : (n j : ℕ) (ts : List Tree) (d : Tree) → 1 ≤ j → j ≤ length (take n ts) → numbered (take n ts) j d ≡ numbered ts j d
numbered-take n zero ts d h k = absurd (omega arith)
numbered-take n (suc j) ts d h k = ap (λ o. unwrap_or o d) (slice_get-take n j ts (omega arith))

module _ (signature : Signature) where
  longer_leaf : (m n : ℕ) → m ≤ n → (x : Leaf) → IsRecipeLeaf signature m x → IsRecipeLeaf signature n x
  longer_leaf m n l (public a) h = h
  longer_leaf m n l (private a) h = absurd h
  longer_leaf m n l (var a) h = absurd h
  longer_leaf m n l (ax j) h = (h.0, omega arith)
  longer_leaf m n l (entry a) h = absurd h
  longer_leaf m n l (rigid a) h = absurd h

  -- a recipe over a frame is one over each longer frame
  pub longer : (m n : ℕ) (r : Tree) → m ≤ n → IsRecipe signature m r → IsRecipe signature n r
  longer m n r l h = built_weaker (IsRecipeLeaf signature m) (HasArity (shapes signature)) (IsRecipeLeaf signature n) r h (longer_leaf m n l)

  leaf-take : (n : ℕ) (ts : List Tree) (x : Leaf) → IsRecipeLeaf signature (length (take n ts)) x → handles_to (take n ts) x ≡ handles_to ts x
  leaf-take n ts (public a) h = refl
  leaf-take n ts (private a) h = refl
  leaf-take n ts (var a) h = refl
  leaf-take n ts (ax j) h = numbered-take n j ts (leaf (ax j)) h.0 h.1
  leaf-take n ts (entry a) h = refl
  leaf-take n ts (rigid a) h = refl

  -- and it computes there what it computes in the shorter one
  pub in_frame-take : (n : ℕ) (ts : List Tree) (r : Tree) → IsRecipe signature (length (take n ts)) r → in_frame (take n ts) r ≡ in_frame ts r
  in_frame-take n ts r h =
      replace_agrees (handles_to (take n ts)) (handles_to ts) r (λ x k. leaf-take n ts x (leaf_meets (IsRecipeLeaf signature (length (take n ts))) (HasArity (shapes signature)) h k))

  take_le : (n : ℕ) (ts : List Tree) → length (take n ts) ≤ length ts
  take_le n ts = omega (arith, length-take n ts)

  same_take : (n : ℕ) (first second : List Tree) → length first ≡ length second → length (take n first) ≡ length (take n second)
  same_take n first second e = length-take n first ∙ (ap (min n) e ∙ sym (length-take n second))

  module _ (theory : Theory) where
    pub prefixes : (first second : List Tree) (n : ℕ) → AreStaticallyEquivalent signature theory first second → AreStaticallyEquivalent signature theory (take n first) (take n second)
    prefixes first second n e = record {
      same_length = same_take n first second e.same_length;
      same_successes = λ r h.
          (let p = e.same_successes r (longer (length (take n first)) (length first) r (take_le n first) h) in
          let a = in_frame-take n first r h in
          let b = in_frame-take n second r (subst (λ m. IsRecipe signature m r) (same_take n first second e.same_length) h) in
          subst (λ t. IsMessage theory t ↔ IsMessage theory (in_frame (take n second) r)) (sym a) (subst (λ t. IsMessage theory (in_frame first r) ↔ IsMessage theory t) (sym b) p));
      same_equalities = λ r s h k.
          (let p = e.same_equalities r s (longer (length (take n first)) (length first) r (take_le n first) h) (longer (length (take n first)) (length first) s (take_le n first) k) in
          let a = in_frame-take n first r h in
          let b = in_frame-take n second r (subst (λ m. IsRecipe signature m r) (same_take n first second e.same_length) h) in
          let c = in_frame-take n first s k in
          let d = in_frame-take n second s (subst (λ m. IsRecipe signature m s) (same_take n first second e.same_length) k) in
          (λ q. one_value (sym b) (sym d) (p.0 (one_value a c q)), λ q. one_value (sym a) (sym c) (p.1 (one_value b d q))));
    }
      where
        one_value : {t u v w : Tree} → t ≡ v → u ≡ w → AreEqual theory t u → AreEqual theory v w
        one_value {t} {u} {v} {w} a b q = subst (λ x. AreEqual theory v x) b (subst (λ x. AreEqual theory x u) a q)

-- under an accepted theory the values of recipes are compared
module _ (signature : Signature) (theory : Theory) (accepted : IsAccepted theory) where
  equal_in :
      (first second : List Tree) (r s v w x y : Tree) → (HaveOneValue theory first r s → HaveOneValue theory second r s) → HasValue theory first r v
      → HasValue theory first s w → HasValue theory second r x → HasValue theory second s y → v ≡ w → x ≡ y
  equal_in first second r s v w x y h a b c d e =
      let one : HaveOneValue theory first r s = record { value = w; left = subst (HasValue theory first r) e a; right = b } in
      let two = h one in
      evaluates_once theory accepted c two.left ∙ evaluates_once theory accepted two.right d

  pub of_values : (first second : List Tree) → AreStaticallyEquivalent signature theory first second → AgreeOnValues signature theory first second
  of_values first second e = record {
    same_length = e.same_length;
    same_successes = e.same_successes;
    same_equalities = λ r s h k v w x y a b c d.
        (let p = e.same_equalities r s h k in (equal_in first second r s v w x y p.0 a b c d, equal_in second first r s x y v w p.1 c d a b));
  }

  pub from_values : (first second : List Tree) → AgreeOnValues signature theory first second → AreStaticallyEquivalent signature theory first second
  from_values first second e = record {
    same_length = e.same_length;
    same_successes = e.same_successes;
    same_equalities = λ r s h k. (forth r s h k, back r s h k);
  }
    where
      forth : (r s : Tree) → IsRecipe signature (length first) r → IsRecipe signature (length first) s → HaveOneValue theory first r s → HaveOneValue theory second r s
      forth r s h k q =
          let a = (e.same_successes r h).0 (q.value, q.left) in
          let b = (e.same_successes s k).0 (q.value, q.right) in
          let same = (e.same_equalities r s h k q.value q.value a.0 b.0 q.left q.right a.1 b.1).0 refl in
          record { value = b.0; left = subst (HasValue theory second r) same a.1; right = b.1 }

      back : (r s : Tree) → IsRecipe signature (length first) r → IsRecipe signature (length first) s → HaveOneValue theory second r s → HaveOneValue theory first r s
      back r s h k q =
          let a = (e.same_successes r h).1 (q.value, q.left) in
          let b = (e.same_successes s k).1 (q.value, q.right) in
          let same = (e.same_equalities r s h k a.0 b.0 q.value q.value a.1 b.1 q.left q.right).1 refl in
          record { value = b.0; left = subst (HasValue theory first r) same a.1; right = b.1 }
