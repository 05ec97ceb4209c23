-- Pairs have a most general unifier, or none at all: a search over trees.
use Rattle.std.proofs.Common.{◌≡◌, ℕ, zero, suc, ◌<◌, List, [], ◌∷◌, ◌++◌, length, nat_eq, true, false, Option, Some, None, refl, sym, ◌∙◌, ap, arith, ◌⊎◌, inl, inr, subst}
use Rattle.std.proofs.lemmas.Bool.{cases_Bool, eqb-true, eq-eqb}
use Rattle.std.proofs.lemmas.List.Elements.{All-nil, All-cons, All-head, All-tail}
use Rattle.dps_terms.specs.declared.Sym.{Sym}
use Rattle.dps_terms.specs.declared.TermView.TheVariants.{Var}
use Rattle.dps_terms.specs.Tree.{Leaf, public, private, var, ax, entry, rigid, Tree, Trees, leaf, app, none, more, list_of, IsSubterm, IsAmong, StandsIn, itself, below, in_first, in_rest}
use Rattle.dps_terms.specs.Replace.{substitute, substitute_all}
use Rattle.dps_terms.specs.Bindings.{bound}
use Rattle.dps_terms.specs.Views.{view_of, arguments, HaveSameRoot}
use Rattle.dps_terms.specs.Same.{same_leaf, same_leaf-true, same_leaf-self}
use Rattle.dps_terms.proofs.Arguments.{same_view, leaf_is_no_app}
use Rattle.dps_unify.specs.Order.{level_of, ComesBefore, Precedes}
use Rattle.dps_unify.specs.Unifier.{Unifies, IsNotUnifiable, IsVariableOf, IsMgu}
use Rattle.dps_unify.specs.Chain.{solved, IsChain}
use Rattle.dps_unify.specs.Difference.{IsDifference, AreUnified}
use Rattle.dps_unify.specs.Forced.{AreNeverEqual, IsForced}
use Rattle.dps_unify.specs.Unified.{all_solved}
use Rattle.dps_unify.specs.Decided.{UnifiersAreDecided}
use Rattle.dps_unify.proofs.Trees.{in_leaf, never_equal, variable_of_instance}
use Rattle.dps_unify.proofs.Chains.{general_tree}
use Rattle.dps_unify.proofs.Pairs.{any_first, any_rest, StandsInPair}
use Rattle.dps_unify.proofs.Unifying.{Progress, progress_start, progress_end, progress_step, never_unified, cycle_is_not_unifiable, places_fall, pair_places, mgu_end}

-- two trees are equal, or have parts whose roots differ
record Differ (t u a c : Tree) : Type 0 where
  pub apart : ¬ HaveSameRoot a c
  pub forces : (r : ℕ → Tree) → substitute r t ≡ substitute r u → substitute r a ≡ substitute r c
  pub left : (n : ℕ) → StandsIn (var n) a → StandsIn (var n) t
  pub right : (n : ℕ) → StandsIn (var n) c → StandsIn (var n) u

record DifferAll (ts us : Trees) (a c : Tree) : Type 0 where
  pub apart : ¬ HaveSameRoot a c
  pub forces : (r : ℕ → Tree) → substitute_all r ts ≡ substitute_all r us → substitute r a ≡ substitute r c
  pub left : (n : ℕ) → StandsIn (var n) a → IsAmong (leaf (var n)) ts
  pub right : (n : ℕ) → StandsIn (var n) c → IsAmong (leaf (var n)) us

at_roots : (t u : Tree) → ¬ HaveSameRoot t u → Differ t u t u
at_roots t u h = record { apart = h; forces = λ r e. e; left = λ n k. k; right = λ n k. k }

other_leaf : (x y : Leaf) → same_leaf x y ≡ false → ¬ HaveSameRoot (leaf x) (leaf y)
other_leaf x y e h =
    let k : true ≡ false = sym (same_leaf-self x) ∙ ap (same_leaf x) (same_view x y h.0) ∙ e in cc

other_symbol : (f g : Sym) (ts us : Trees) → nat_eq f.number g.number ≡ false → ¬ HaveSameRoot (app f ts) (app g us)
other_symbol f g ts us e h =
    let v = h.0 in
    let d : f ≡ g = cc in
    let k : true ≡ false = sym (eq-eqb f.number g.number (ap (λ s. s.number) d)) ∙ e in cc

other_length : (f g : Sym) (ts us : Trees) → nat_eq (length (list_of ts)) (length (list_of us)) ≡ false → ¬ HaveSameRoot (app f ts) (app g us)
other_length f g ts us e h =
    let k : true ≡ false = sym (eq-eqb (length (list_of ts)) (length (list_of us)) h.1) ∙ e in cc

same_symbol : (f g : Sym) → nat_eq f.number g.number ≡ true → f ≡ g
same_symbol f g e = λ i. record { number = eqb-true f.number g.number e i }

under : (f g : Sym) (ts us : Trees) (a c : Tree) → DifferAll ts us a c → Differ (app f ts) (app g us) a c
under f g ts us a c d = record {
  apart = d.apart;
  forces = λ r e. d.forces r (let k : substitute_all r ts ≡ substitute_all r us = cc in k);
  left = λ n k. below (d.left n k);
  right = λ n k. below (d.right n k);
}

in_head : (t u : Tree) (ts us : Trees) (a c : Tree) → Differ t u a c → DifferAll (more t ts) (more u us) a c
in_head t u ts us a c d = record {
  apart = d.apart;
  forces = λ r e. d.forces r (let k : substitute r t ≡ substitute r u = cc in k);
  left = λ n k. in_first (d.left n k);
  right = λ n k. in_first (d.right n k);
}

in_tail : (t u : Tree) (ts us : Trees) (a c : Tree) → DifferAll ts us a c → DifferAll (more t ts) (more u us) a c
in_tail t u ts us a c d = record {
  apart = d.apart;
  forces = λ r e. d.forces r (let k : substitute_all r ts ≡ substitute_all r us = cc in k);
  left = λ n k. in_rest (d.left n k);
  right = λ n k. in_rest (d.right n k);
}

mutual
  compare : (t u : Tree) → (t ≡ u) ⊎ ((a : Tree) × (c : Tree) × Differ t u a c)
  compare (leaf x) (leaf y) =
      elim (cases_Bool (same_leaf x y)) [
        | inl e ↦ inl (ap leaf (same_leaf-true x y e))
        | inr e ↦ inr (leaf x, leaf y, at_roots (leaf x) (leaf y) (other_leaf x y e))
      ]
  compare (leaf x) (app g us) = inr (leaf x, app g us, at_roots (leaf x) (app g us) (λ h. leaf_is_no_app x g h.0))
  compare (app f ts) (leaf y) = inr (app f ts, leaf y, at_roots (app f ts) (leaf y) (λ h. leaf_is_no_app y f (sym h.0)))
  compare (app f ts) (app g us) =
      elim (cases_Bool (nat_eq f.number g.number)) [
        | inr e ↦ inr (app f ts, app g us, at_roots (app f ts) (app g us) (other_symbol f g ts us e))
        | inl e ↦ elim (cases_Bool (nat_eq (length (list_of ts)) (length (list_of us)))) [
          | inr o ↦ inr (app f ts, app g us, at_roots (app f ts) (app g us) (other_length f g ts us o))
          | inl o ↦ elim (compare_all ts us (eqb-true (length (list_of ts)) (length (list_of us)) o)) [
            | inl k ↦ inl (λ i. app (same_symbol f g e i) (k i))
            | inr d ↦ inr (d.0, d.1, under f g ts us d.0 d.1 d.2)
          ]
        ]
      ]

  compare_all : (ts us : Trees) → length (list_of ts) ≡ length (list_of us) → (ts ≡ us) ⊎ ((a : Tree) × (c : Tree) × DifferAll ts us a c)
  compare_all none none e = inl refl
  compare_all none (more u us) e = absurd (omega arith)
  compare_all (more t ts) none e = absurd (omega arith)
  compare_all (more t ts) (more u us) e =
      elim (compare t u) [
        | inr d ↦ inr (d.0, d.1, in_head t u ts us d.0 d.1 d.2)
        | inl k ↦ elim (compare_all ts us (omega arith)) [
          | inl l ↦ inl (λ i. more (k i) (l i))
          | inr d ↦ inr (d.0, d.1, in_tail t u ts us d.0 d.1 d.2)
        ]
      ]

-- a variable stands in a tree, or it does not
app_cases : (u : Tree) (g : Sym) (us : Trees) → IsSubterm u (app g us) → (u ≡ app g us) ⊎ IsAmong u us
app_cases u g us itself = inl refl
app_cases u g us (below m) = inr m

among_cases : (u t : Tree) (ts : Trees) → IsAmong u (more t ts) → IsSubterm u t ⊎ IsAmong u ts
among_cases u t ts (in_first k) = inl k
among_cases u t ts (in_rest k) = inr k

no_among : (u : Tree) → IsAmong u none → ⊥
no_among u k = elim k [ ]

mutual
  stands : (x : ℕ) (t : Tree) → StandsIn (var x) t ⊎ ¬ StandsIn (var x) t
  stands x (leaf y) =
      elim (cases_Bool (same_leaf (var x) y)) [
        | inl e ↦ inl (subst (λ z. StandsIn (var x) (leaf z)) (same_leaf-true (var x) y e) itself)
        | inr e ↦ inr (λ k.
            let d = in_leaf y (leaf (var x)) k in
            let f : var x ≡ y = cc in
            let o : true ≡ false = sym (same_leaf-self (var x)) ∙ ap (same_leaf (var x)) f ∙ e in cc)
      ]
  stands x (app f ts) =
      elim (stands_among x ts) [
        | inl k ↦ inl (below k)
        | inr never ↦ inr (λ k. elim (app_cases (leaf (var x)) f ts k) [ inl d ↦ cc | inr m ↦ never m ])
      ]

  stands_among : (x : ℕ) (ts : Trees) → IsAmong (leaf (var x)) ts ⊎ ¬ IsAmong (leaf (var x)) ts
  stands_among x none = inr (no_among (leaf (var x)))
  stands_among x (more t ts) =
      elim (stands x t) [
        | inl k ↦ inl (in_first k)
        | inr never ↦ elim (stands_among x ts) [
          | inl k ↦ inl (in_rest k)
          | inr nowhere ↦ inr (λ k. elim (among_cases (leaf (var x)) t ts k) [ inl m ↦ never m | inr m ↦ nowhere m ])
        ]
      ]

-- of two variables one comes first
numbers : (i j : ℕ) → (i < j) ⊎ ((i ≡ j) ⊎ (j < i))
numbers zero zero = inr (inl refl)
numbers zero (suc j) = inl (omega arith)
numbers (suc i) zero = inr (inr (omega arith))
numbers (suc i) (suc j) =
    elim (numbers i j) [
      | inl h ↦ inl (omega arith)
      | inr k ↦ elim k [ inl e ↦ inr (inl (omega arith)) | inr h ↦ inr (inr (omega arith)) ]
    ]

other_numbers : (x y : ℕ) → (x ≡ y → ⊥) → (x < y) ⊎ (y < x)
other_numbers x y other =
    elim (numbers x y) [ inl h ↦ inl h | inr k ↦ elim k [ inl e ↦ absurd (other e) | inr h ↦ inr h ] ]

one_comes : (a b : Option ℕ) (x y : ℕ) → (x ≡ y → ⊥) → ComesBefore a b x y ⊎ ComesBefore b a y x
one_comes (Some i) (Some j) x y other =
    elim (numbers i j) [
      | inl h ↦ inl (inl h)
      | inr k ↦ elim k [
        | inl e ↦ elim (other_numbers x y other) [ inl h ↦ inl (inr (e, h)) | inr h ↦ inr (inr (sym e, h)) ]
        | inr h ↦ inr (inl h)
      ]
    ]
one_comes (Some i) None x y other = inl tt
one_comes None (Some j) x y other = inr tt
one_comes None None x y other = other_numbers x y other

-- what two parts force
is_variable : (t : Tree) → ((n : ℕ) × (t ≡ leaf (var n))) ⊎ ((n : ℕ) → view_of t ≡ Var n → ⊥)
is_variable (leaf (var n)) = inl (n, refl)
is_variable (leaf (public m)) = inr (λ n e. cc)
is_variable (leaf (private m)) = inr (λ n e. cc)
is_variable (leaf (ax m)) = inr (λ n e. cc)
is_variable (leaf (entry m)) = inr (λ n e. cc)
is_variable (leaf (rigid m)) = inr (λ n e. cc)
is_variable (app f ts) = inr (λ n e. cc)

same_variable : (a c : Tree) (x y : ℕ) → a ≡ leaf (var x) → c ≡ leaf (var y) → x ≡ y → HaveSameRoot a c
same_variable a c x y ea ec e =
    let k : a ≡ c = ea ∙ ap (λ n. leaf (var n)) e ∙ sym ec in (ap view_of k, ap (λ t. length (arguments t)) k)

var_number : (x y : ℕ) → leaf (var x) ≡ leaf (var y) → x ≡ y
var_number x y e = cc

module _ (levels : List (ℕ × ℕ)) (a c : Tree) (apart : ¬ HaveSameRoot a c) where
  left_forced : (x y : ℕ) → a ≡ leaf (var x) → c ≡ leaf (var y) → Precedes levels y x → IsForced levels a c x (leaf (var y))
  left_forced x y ea ec first = record {
    sides = inl (ea, ec);
    other = λ e. apart (same_variable a c x y ea ec (sym (var_number y x e)));
    first = λ n e. subst (λ m. Precedes levels m x) (var_number y n e) first;
  }

  right_forced : (x y : ℕ) → a ≡ leaf (var x) → c ≡ leaf (var y) → Precedes levels x y → IsForced levels a c y (leaf (var x))
  right_forced x y ea ec first = record {
    sides = inr (ec, ea);
    other = λ e. apart (same_variable a c x y ea ec (var_number x y e));
    first = λ n e. subst (λ m. Precedes levels m y) (var_number x n e) first;
  }

  forced : ((x : ℕ) × (v : Tree) × IsForced levels a c x v) ⊎ AreNeverEqual a c
  forced =
      elim (is_variable a) [
        | inl p ↦ elim (is_variable c) [
          | inl q ↦ elim (one_comes (level_of levels p.0) (level_of levels q.0) p.0 q.0 (λ e. apart (same_variable a c p.0 q.0 p.1 q.1 e))) [
            | inl h ↦ inl (q.0, leaf (var p.0), right_forced p.0 q.0 p.1 q.1 h)
            | inr h ↦ inl (p.0, leaf (var q.0), left_forced p.0 q.0 p.1 q.1 h)
          ]
          | inr never ↦ inl (
            p.0,
            c,
            record {
              sides = inl (p.1, refl);
              other = λ e. never p.0 (ap view_of e);
              first = λ y e. absurd (never y (ap view_of e));
            },
          )
        ]
        | inr not ↦ elim (is_variable c) [
          | inl q ↦ inl (
            q.0,
            a,
            record {
              sides = inr (q.1, refl);
              other = λ e. not q.0 (ap view_of e);
              first = λ y e. absurd (not y (ap view_of e));
            },
          )
          | inr never ↦ inr (never_equal a c apart not never)
        ]
      ]

-- the first difference of pairs under a substitution
record DifferIn (z : ℕ → Tree) (ps : List (Tree × Tree)) (a c : Tree) : Type 0 where
  pub apart : ¬ HaveSameRoot a c
  pub forces : (r : ℕ → Tree) → ((t : Tree) → substitute r (substitute z t) ≡ substitute r t) → Unifies r ps → substitute r a ≡ substitute r c
  pub within : (n : ℕ) → StandsIn (var n) a ⊎ StandsIn (var n) c → (m : ℕ) × IsVariableOf ps m × StandsIn (var n) (z m)

module _ (z : ℕ → Tree) (p : Tree × Tree) (ps : List (Tree × Tree)) (a c : Tree) where
  differ_here : Differ (substitute z p.0) (substitute z p.1) a c → DifferIn z (p ∷ ps) a c
  differ_here d = record {
    apart = d.apart;
    forces = λ r g u. d.forces r (g p.0 ∙ All-head (λ q. substitute r q.0 ≡ substitute r q.1) p ps u ∙ sym (g p.1));
    within = λ n k. elim k [
      | inl o ↦ let w = variable_of_instance z n p.0 (d.left n o) in (w.0, any_first (StandsInPair w.0) p ps (inl w.1), w.2)
      | inr o ↦ let w = variable_of_instance z n p.1 (d.right n o) in (w.0, any_first (StandsInPair w.0) p ps (inr w.1), w.2)
    ];
  }

  differ_later : DifferIn z ps a c → DifferIn z (p ∷ ps) a c
  differ_later d = record {
    apart = d.apart;
    forces = λ r g u. d.forces r g (All-tail (λ q. substitute r q.0 ≡ substitute r q.1) p ps u);
    within = λ n k. let w = d.within n k in (w.0, any_rest (StandsInPair w.0) p ps w.1, w.2);
  }

find : (z : ℕ → Tree) (ps : List (Tree × Tree)) → Unifies z ps ⊎ ((a : Tree) × (c : Tree) × DifferIn z ps a c)
find z [] = inl (All-nil (λ q. substitute z q.0 ≡ substitute z q.1))
find z (p ∷ ps) =
    elim (compare (substitute z p.0) (substitute z p.1)) [
      | inr d ↦ inr (d.0, d.1, differ_here z p ps d.0 d.1 d.2)
      | inl e ↦ elim (find z ps) [
        | inl u ↦ inl (All-cons (λ q. substitute z q.0 ≡ substitute z q.1) p ps e u)
        | inr d ↦ inr (d.0, d.1, differ_later z p ps d.0 d.1 d.2)
      ]
    ]

carried : (z r : ℕ → Tree) → ((t : Tree) → substitute r (substitute z t) ≡ substitute r t) → (ps : List (Tree × Tree)) → Unifies z ps → Unifies r ps
carried z r g [] u = All-nil (λ q. substitute r q.0 ≡ substitute r q.1)
carried z r g (p ∷ ps) u =
    All-cons (λ q. substitute r q.0 ≡ substitute r q.1) p ps
    (sym (g p.0) ∙ ap (substitute r) (All-head (λ q. substitute z q.0 ≡ substitute z q.1) p ps u) ∙ g p.1)
    (carried z r g ps (All-tail (λ q. substitute z q.0 ≡ substitute z q.1) p ps u))

module _ (b : List (ℕ × Tree)) (h : IsChain b) (ps : List (Tree × Tree)) where
  all_unified : Unifies (solved b) ps → AreUnified b ps
  all_unified u r f = carried (solved b) r (general_tree b h r f) ps u

  module _ (a c : Tree) (d : DifferIn (solved b) ps a c) where
    open_in : (n : ℕ) → StandsIn (var n) a ⊎ StandsIn (var n) c → bound b n ≡ None
    open_in n k = let w = d.within n k in h.is_open w.0 n w.2

    difference : IsDifference b ps ps a c
    difference = record {
      apart = d.apart;
      left = λ n e. open_in n (inl (subst (λ t. StandsIn (var n) t) (sym e) itself));
      right = λ n e. open_in n (inr (subst (λ t. StandsIn (var n) t) (sym e) itself));
      same = λ r f. (λ u. (u, d.forces r (general_tree b h r f) u), λ k. k.0);
      within_pairs = λ n k. inl k;
      within_parts = λ n k.
          let w = d.within n k in
          elim (h.within w.0 n w.2) [ inl e ↦ inl (subst (IsVariableOf ps) (sym e) w.1) | inr o ↦ inr o ];
    }

-- the search: each step leaves fewer places of unbound variables
module _ (levels : List (ℕ × ℕ)) (pairs : List (Tree × Tree)) where
  search_from : (k : ℕ) (b : List (ℕ × Tree)) → Progress levels pairs b pairs → pair_places b pairs < k → ((u : List (ℕ × Tree)) × IsMgu levels pairs u) ⊎ IsNotUnifiable pairs
  search_from zero b h small = absurd (omega arith)
  search_from (suc k) b h small =
      elim (find (solved b) pairs) [
        | inl u ↦ inl (all_solved b, mgu_end levels pairs b (progress_end levels pairs b pairs h (all_unified b h.chain pairs u)))
        | inr w ↦
            let a = w.0 in
            let c = w.1 in
            let d = difference b h.chain pairs a c w.2 in
            elim (forced levels a c d.apart) [
              | inr never ↦ inr (never_unified levels pairs b pairs pairs a c h d never)
              | inl f ↦
                  let x = f.0 in
                  let v = f.1 in
                  elim (stands x (substitute (solved b) v)) [
                    | inl cycle ↦ inr (cycle_is_not_unifiable levels pairs b pairs pairs a c h d x v f.2 cycle)
                    | inr absent ↦
                        let q = b ++ (x, v) ∷ [] in
                        let fewer = places_fall levels pairs b pairs pairs a c h d x v f.2 absent q refl in
                        search_from k q (progress_step levels pairs b pairs pairs a c h d x v f.2 absent q refl) (omega (arith, fewer, small))
                  ]
            ]
      ]

pub unifiers_are_decided : UnifiersAreDecided
unifiers_are_decided = λ levels pairs. search_from levels pairs (suc (pair_places [] pairs)) [] (progress_start levels pairs [] refl) (omega arith)
