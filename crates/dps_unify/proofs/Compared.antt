-- Matching, node by node.
use Rattle.std.proofs.Common.{◌≡◌, ℕ, zero, suc, ◌+◌, ◌<◌, ◌≤◌, List, [], ◌∷◌, ◌++◌, length, map, take, drop, Some, refl, sym, ◌∙◌, ap, arith, ◌⊎◌, inl, inr, subst, length-append}
use Rattle.std.specs.Prelude.{slice_get, Contains}
use Rattle.std.proofs.lemmas.List.{map-append, length-map, take-append-drop}
use Rattle.std.proofs.lemmas.Option.{none-some}
use Rattle.dps_terms.specs.Tree.{Leaf, var, Tree, Trees, leaf, app, none, more, list_of, trees, node_count, StandsIn, IsSubterm}
use Rattle.dps_terms.specs.Replace.{substitute, substitute_all}
use Rattle.dps_terms.specs.Bindings.{bound}
use Rattle.dps_terms.specs.Views.{view_of, arguments, HaveSameRoot}
use Rattle.dps_terms.specs.declared.TermView.TheVariants.{Var}
use Rattle.dps_terms.proofs.Arguments.{same_view, leaf_is_no_app}
use Rattle.dps_terms.specs.Walk.{subterms_from}
use Rattle.dps_terms.proofs.Walking.{nodes_left}
use Rattle.dps_terms.proofs.Subterms.{nested, trees-list_of}
use Rattle.std.proofs.lemmas.Bool.{cases_lt}
use Rattle.dps_unify.proofs.Matched.{grows_more}
use Rattle.dps_unify.specs.Matching.{Keeps, Agrees, Matched, Grows, Refused}
use Rattle.dps_unify.specs.Comparing.{IsCompared, variable, roots}
use Rattle.dps_unify.proofs.Trees.{alike_instance, below_root}

-- the leaf stands in one of the trees
abbrev pub Holds : Leaf → List Tree → Type 0
Holds x [] = ⊥
Holds x (t ∷ ts) = StandsIn x t ⊎ Holds x ts

holds_at : (x : Leaf) (ts us : List Tree) (i : ℕ) (u : Tree) → slice_get ts i ≡ Some u → StandsIn x u → Holds x (ts ++ us)
holds_at x [] us i u e k = absurd (none-some u e)
holds_at x (t ∷ ts) us zero u e k = let d : u ≡ t = cc in inl (subst (λ v. StandsIn x v) d k)
holds_at x (t ∷ ts) us (suc i) u e k = inr (holds_at x ts us i u e k)

holds_behind : (x : Leaf) (ts us : List Tree) → Holds x us → Holds x (ts ++ us)
holds_behind x [] us k = k
holds_behind x (t ∷ ts) us k = inr (holds_behind x ts us k)

-- lists whose fronts are of one length
split_equal : (ts bs cs ds : List Tree) → length ts ≡ length cs → ts ++ bs ≡ cs ++ ds → (ts ≡ cs) × (bs ≡ ds)
split_equal [] bs [] ds l e = (refl, e)
split_equal [] bs (c ∷ cs) ds l e = absurd (omega (arith, l))
split_equal (a ∷ ts) bs [] ds l e = absurd (omega (arith, l))
split_equal (a ∷ ts) bs (c ∷ cs) ds l e =
    let h : a ≡ c = cc in
    let r : ts ++ bs ≡ cs ++ ds = cc in
    let k = split_equal ts bs cs ds (omega (arith, l)) r in
    (λ i. h i ∷ k.0 i, k.1)

-- the arguments of an instance
instances : (r : ℕ → Tree) (ts : Trees) → list_of (substitute_all r ts) ≡ map (substitute r) (list_of ts)
instances r none = refl
instances r (more t ts) = ap (λ us. substitute r t ∷ us) (instances r ts)

leaf_alone : (r : ℕ → Tree) (x : Leaf) → ((m : ℕ) → view_of (leaf x) ≡ Var m → ⊥) → arguments (substitute r (leaf x)) ≡ []
leaf_alone r x other = no_length (arguments (substitute r (leaf x))) (alike_instance r (leaf x) other).1
  where
    no_length : (ts : List Tree) → length ts ≡ 0 → ts ≡ []
    no_length [] e = refl
    no_length (t ∷ ts) e = absurd (omega (arith, e))

arguments_instance : (r : ℕ → Tree) (p : Tree) → ((m : ℕ) → view_of p ≡ Var m → ⊥) → arguments (substitute r p) ≡ map (substitute r) (arguments p)
arguments_instance r (leaf x) other = leaf_alone r x other
arguments_instance r (app f ts) other = instances r ts

-- trees with one root over the same arguments
same_tree : (t u : Tree) → view_of t ≡ view_of u → arguments t ≡ arguments u → t ≡ u
same_tree (leaf x) (leaf y) e h = ap leaf (same_view x y e)
same_tree (leaf x) (app g us) e h = absurd (leaf_is_no_app x g e)
same_tree (app f ts) (leaf y) e h = absurd (leaf_is_no_app y f (sym e))
same_tree (app f ts) (app g us) e h =
    let d : f ≡ g = cc in
    let k : ts ≡ us = sym (trees-list_of ts) ∙ (ap trees h ∙ trees-list_of us) in
    λ i. app (d i) (k i)

-- The parts ps of the pattern p are left to be compared with the parts ts of the term t, and the solution grew from s to q.
pub record IsMatching (free : List ℕ) (s : List (ℕ × Tree)) (p t : Tree) (q : List (ℕ × Tree)) (ps ts : List Tree) : Type 0 where
  pub grown : Grows free s p q
  pub covers : (n : ℕ) → Contains free n → StandsIn (var n) p → ((v : Tree) × (bound q n ≡ Some v)) ⊎ Holds (var n) ps
  pub matches : (r : ℕ → Tree) → Keeps free r → Agrees r q → map (substitute r) ps ≡ ts → substitute r p ≡ t
  pub forced : (r : ℕ → Tree) → Keeps free r → Agrees r s → substitute r p ≡ t → Agrees r q × (map (substitute r) ps ≡ ts)
  pub even : length ps ≡ length ts

module _ (free : List ℕ) (s : List (ℕ × Tree)) (p t : Tree) where
  pub begun : (ps ts : List Tree) → ps ≡ p ∷ [] → ts ≡ t ∷ [] → IsMatching free s p t s ps ts
  begun ps ts d e = rw (d, e) record {
    grown = record { keeps = λ n v b. b; within = λ n v b. inl b };
    covers = λ n f k. inr (inl k);
    matches = λ r k g h. let m : substitute r p ≡ t = cc in m;
    forced = λ r k g h. (g, ap (λ u. u ∷ []) h);
    even = refl;
  }

  pub ended : (q : List (ℕ × Tree)) (ps ts : List Tree) → ps ≡ [] → IsMatching free s p t q ps ts → Matched free s p t q
  ended q ps ts e h = record {
    keeps = h.grown.keeps;
    within = h.grown.within;
    covers = λ n f k. elim (h.covers n f k) [ inl o ↦ o | inr o ↦ absurd (subst (Holds (var n)) e o) ];
    matches = λ r k g. h.matches r k g (ap (map (substitute r)) e ∙ sym (nothing ts (omega (arith, ap length e, h.even))));
    forced = λ r k g m. (h.forced r k g m).0;
  }
    where
      nothing : (us : List Tree) → length us ≡ 0 → us ≡ []
      nothing [] d = refl
      nothing (u ∷ us) d = absurd (omega (arith, d))

  module _ (q : List (ℕ × Tree)) (v u : Tree) (ps ts : List Tree) (h : IsMatching free s p t q (v ∷ ps) (u ∷ ts)) where
    here : (r : ℕ → Tree) → Keeps free r → Agrees r s → substitute r p ≡ t → substitute r v ≡ u
    here r k g e = let f = (h.forced r k g e).1 in cc

    rest : (r : ℕ → Tree) → Keeps free r → Agrees r s → substitute r p ≡ t → map (substitute r) ps ≡ ts
    rest r k g e = let f = (h.forced r k g e).1 in cc

    pub refused : Refused free q v u → Refused free s p t
    refused non r k g e = non r k (h.forced r k g e).0 (here r k g e)

    -- a part that matches whole
    pub part_matched : (z : List (ℕ × Tree)) → IsSubterm v p → Matched free q v u z → IsMatching free s p t z ps ts
    part_matched z inside m = record {
      grown = record {
        keeps = λ n w e. m.keeps n w (h.grown.keeps n w e);
        within = λ n w e. elim (m.within n w e) [ inl o ↦ h.grown.within n w o | inr o ↦ inr (o.0, nested o.1 inside) ];
      };
      covers = λ n f k.
          elim (h.covers n f k) [
            | inl o ↦ inl (o.0, m.keeps n o.0 o.1)
            | inr o ↦ elim o [ inl i ↦ inl (m.covers n f i) | inr i ↦ inr i ]
          ];
      matches = λ r k g e. h.matches r k (λ n w b. g n w (m.keeps n w b)) (λ i. m.matches r k g i ∷ e i);
      forced = λ r k g e. (m.forced r k (h.forced r k g e).0 (here r k g e), rest r k g e);
      even = omega (arith, h.even);
    }

    -- a part of which the root matches
    pub root_matched : ((m : ℕ) → view_of v ≡ Var m → ⊥) → HaveSameRoot v u → IsMatching free s p t q (arguments v ++ ps) (arguments u ++ ts)
    root_matched other same = record {
      grown = h.grown;
      covers = λ n f k.
          elim (h.covers n f k) [
            | inl o ↦ inl o
            | inr o ↦ elim o [
              | inl i ↦ let b = below_root n v other i in inr (holds_at (var n) (arguments v) ps b.0 b.1 b.2 b.3)
              | inr i ↦ inr (holds_behind (var n) (arguments v) ps i)
            ]
          ];
      matches = λ r k g e.
          let parts = split_equal (map (substitute r) (arguments v)) (map (substitute r) ps) (arguments u) ts (length-map (arguments v) (substitute r) ∙ same.1)
          (sym (map-append (substitute r) (arguments v) ps) ∙ e) in
          let root = alike_instance r v other in
          let first : substitute r v ≡ u = same_tree (substitute r v) u (root.0 ∙ same.0) (arguments_instance r v other ∙ parts.0) in
          h.matches r k g (λ i. first i ∷ parts.1 i);
      forced = λ r k g e.
          let first : map (substitute r) (arguments v) ≡ arguments u = sym (arguments_instance r v other) ∙ ap arguments (here r k g e) in
          ((h.forced r k g e).0, map-append (substitute r) (arguments v) ps ∙ (λ i. first i ++ rest r k g e i));
      even = omega (arith, h.even, same.1, length-append (arguments v) ps, length-append (arguments u) ts);
    }

-- the parts behind a node
pub parts_behind : (x : Tree) (ps qs : List Tree) → arguments x ≡ take (length (arguments x)) qs → ps ≡ x ∷ drop (length (arguments x)) qs → qs ≡ arguments x ++ drop (length (arguments x)) qs
parts_behind x ps qs below first = sym (take-append-drop (length (arguments x)) qs) ∙ ap (λ us. us ++ drop (length (arguments x)) qs) (sym below)

-- the subterm of a tree at a node
pub record IsAt (t : Tree) (node : ℕ) (s : Tree) : Type 0 where
  pub first : subterms_from t node ≡ s ∷ drop (length (arguments s)) (subterms_from t (node + 1))
  pub below : arguments s ≡ take (length (arguments s)) (subterms_from t (node + 1))
  pub behind : subterms_from t (node + node_count s) ≡ drop 1 (subterms_from t node)
  pub inside : IsSubterm s t

module _ (free : List ℕ) (s : List (ℕ × Tree)) (p t : Tree) (q : List (ℕ × Tree)) (i j : ℕ) (v u : Tree) (pattern : IsAt p i v) (term : IsAt t j u)
    (h : IsMatching free s p t q (subterms_from p i) (subterms_from t j)) where
  now : IsMatching free s p t q (v ∷ drop (length (arguments v)) (subterms_from p (i + 1))) (u ∷ drop (length (arguments u)) (subterms_from t (j + 1)))
  now = rw (← pattern.first, ← term.first) h

  pub grown_on : (z : List (ℕ × Tree)) → Grows free q v z → Grows free s p z
  grown_on z g = grows_more free s q z p v pattern.inside h.grown g

  pub refused_here : Refused free q v u → Refused free s p t
  refused_here = refused free s p t q v u (drop (length (arguments v)) (subterms_from p (i + 1))) (drop (length (arguments u)) (subterms_from t (j + 1))) now

  one_variable : (z : List (ℕ × Tree)) (count : ℕ) → arguments v ≡ [] → Matched free q v u z → count ≡ node_count u → IsMatching free s p t z (subterms_from p (i + 1)) (subterms_from t (j + count))
  one_variable z count alone m size =
      let ps : drop (length (arguments v)) (subterms_from p (i + 1)) ≡ subterms_from p (i + 1) = ap (λ us. drop (length us) (subterms_from p (i + 1))) alone in
      let ts : subterms_from t (j + count) ≡ drop (length (arguments u)) (subterms_from t (j + 1)) = ap (λ n. subterms_from t (j + n)) size ∙ (term.behind ∙ ap (drop 1) term.first) in
      rw (← ps, ts) (part_matched free s p t q v u (drop (length (arguments v)) (subterms_from p (i + 1))) (drop (length (arguments u)) (subterms_from t (j + 1))) now z pattern.inside m)

  one_root : (z : List (ℕ × Tree)) (count : ℕ) → ((m : ℕ) → view_of v ≡ Var m → ⊥) → HaveSameRoot v u → z ≡ q → count ≡ 1
      → IsMatching free s p t z (subterms_from p (i + 1)) (subterms_from t (j + count))
  one_root z count other same kept one =
      let ps = parts_behind v (subterms_from p i) (subterms_from p (i + 1)) pattern.below pattern.first in
      let ts = parts_behind u (subterms_from t j) (subterms_from t (j + 1)) term.below term.first in
      subst (λ n. IsMatching free s p t z (subterms_from p (i + 1)) (subterms_from t (j + n))) (sym one)
      (subst (λ y. IsMatching free s p t y (subterms_from p (i + 1)) (subterms_from t (j + 1))) (sym kept)
      (subst (λ ys. IsMatching free s p t q ys (subterms_from t (j + 1))) (sym ps)
      (subst (λ ys. IsMatching free s p t q (arguments v ++ drop (length (arguments v)) (subterms_from p (i + 1))) ys) (sym ts)
      (root_matched free s p t q v u (drop (length (arguments v)) (subterms_from p (i + 1))) (drop (length (arguments u)) (subterms_from t (j + 1))) now other same))))

  pub stepped : (z : List (ℕ × Tree)) (count : ℕ) → IsCompared free q v u z count → IsMatching free s p t z (subterms_from p (i + 1)) (subterms_from t (j + count))
  stepped z count (variable alone m size) = one_variable z count alone m size
  stepped z count (roots other same kept one) = one_root z count other same kept one

-- where a part of the pattern is left, one of the term is
pub is_left : (free : List ℕ) (s : List (ℕ × Tree)) (p t : Tree) (q : List (ℕ × Tree)) (i j : ℕ) (v : Tree) (vs : List Tree) → subterms_from p i ≡ v ∷ vs
    → IsMatching free s p t q (subterms_from p i) (subterms_from t j) → j < node_count t
is_left free s p t q i j v vs e h =
    elim (cases_lt j (node_count t)) [
      | inl o ↦ o
      | inr o ↦ absurd (omega (arith, ap length (nodes_left t j (omega (arith, o))), h.even, ap length e))
    ]

pub compared_fits : (free : List ℕ) (q : List (ℕ × Tree)) (v u : Tree) (z : List (ℕ × Tree)) (count : ℕ) → IsCompared free q v u z count → count ≤ node_count u
compared_fits free q v u z count (variable alone m size) = omega (arith, size)
compared_fits free q v u z count (roots other same kept one) = omega (arith, one, some u)
  where
    some : (t : Tree) → 1 ≤ node_count t
    some (leaf x) = omega arith
    some (app f ts) = omega arith
