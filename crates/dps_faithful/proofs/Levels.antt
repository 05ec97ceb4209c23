-- The variables of a node: their numbers, levels and places.
use Rattle.std.proofs.Common.{◌≡◌, ℕ, suc, ◌+◌, ◌<◌, ◌≤◌, List, [], ◌∷◌, length, sym, ◌∙◌, ap, subst, inl, inr, arith, cond, nat_eq, Some, AllPairs}
use Rattle.std.specs.Prelude.{◌≢◌, Contains, All, Any, slice_get, zero}
use Rattle.std.specs.List.{flat_map}
use Rattle.std.proofs.lemmas.Bool.{cases_Bool, eqb-true, eq-eqb}
use Rattle.std.proofs.lemmas.List.Elements.{All-nil, All-cons, All-contains, Contains-append_cases}
use Rattle.std.proofs.lemmas.List.Kept.{AllPairs-cons, AllPairs-filter}
use Rattle.std.proofs.lemmas.Map.Views.{Contains-from_any}
use Rattle.dps_terms.specs.Tree.{Leaf, public, private, var, ax, entry, rigid, Tree, Trees, leaf, app, none, more, StandsIn, IsAmong, itself, below, in_first, in_rest}
use Rattle.dps_terms.specs.Variables.{occurrences, all_occurrences}
use Rattle.dps_unify.specs.Order.{level_of}
use Rattle.dps_symeval.proofs.Listed.{contains_none, contains_first, contains_later, contains_cases, contains_one, joined, from_joined, filtered, from_filtered}
use Rattle.dps_directions.proofs.Listing.{contains_any}
use Rattle.dps_directions.proofs.Beginning.{in_occurrences}
use Rattle.dps_node.specs.Node.{Node, numbered_from, label_trees, variables_of}
use Rattle.dps_renewal.specs.Numbering.{is_among}
use Rattle.dps_faithful.proofs.Lists.{among_true}

-- what occurs in a tree stands in it
occurs_leaf : (x : Leaf) (n : ℕ) → Contains (occurrences (leaf x)) n → StandsIn (var n) (leaf x)
occurs_leaf (public k) n h = absurd (contains_none n h)
occurs_leaf (private k) n h = absurd (contains_none n h)
occurs_leaf (ax k) n h = absurd (contains_none n h)
occurs_leaf (entry k) n h = absurd (contains_none n h)
occurs_leaf (rigid k) n h = absurd (contains_none n h)
occurs_leaf (var k) n h = subst (λ j. StandsIn (var n) (leaf (var j))) (contains_one k n h) itself

mutual
  pub occurrence_stands : (t : Tree) (n : ℕ) → Contains (occurrences t) n → StandsIn (var n) t
  occurrence_stands (leaf x) n h = occurs_leaf x n h
  occurrence_stands (app f ts) n h = below (occurrences_stand ts n h)

  occurrences_stand : (ts : Trees) (n : ℕ) → Contains (all_occurrences ts) n → IsAmong (leaf (var n)) ts
  occurrences_stand none n h = absurd (contains_none n h)
  occurrences_stand (more t ts) n h = elim (Contains-append_cases (occurrences t) (all_occurrences ts) n h) [
    | inl k ↦ in_first (occurrence_stands t n k)
    | inr k ↦ in_rest (occurrences_stand ts n k)
  ]

-- a level that is found is listed
pub level_is_listed : (levels : List (ℕ × ℕ)) (x l : ℕ) → level_of levels x ≡ Some l → Contains levels (x, l)
level_is_listed [] x l e = cc
level_is_listed (p ∷ ps) x l e = elim (cases_Bool (nat_eq p.0 x)) [
  | inl d ↦
      let q : Some p.1 ≡ Some l = ap (λ b. cond b (Some p.1) (level_of ps x)) (sym d) ∙ e in
      let same : p.1 ≡ l = cc in
      let first : p.0 ≡ x = eqb-true p.0 x d in
      subst (λ (q : ℕ × ℕ). Contains (p ∷ ps) q) (λ i. (first i, same i)) (contains_first p ps)
  | inr d ↦ contains_later p ps (x, l) (level_is_listed ps x l (ap (λ b. cond b (Some p.1) (level_of ps x)) (sym d) ∙ e))
]

-- a variable of the node stands in a label tree
pub is_labelled : (node : Node) (x l : ℕ) → level_of (variables_of node) x ≡ Some l → Any (λ t. StandsIn (var x) t) (label_trees node)
is_labelled node x l e =
    let listed = from_filtered (λ (p : ℕ × ℕ). is_among p.0 (flat_map occurrences (label_trees node))) (numbered_from 1 node.levels) (x, l)
    (level_is_listed (variables_of node) x l e) in
    let among = Contains-from_any (λ (n k : ℕ). eqb-true n k) x (flat_map occurrences (label_trees node)) listed.1 in
    let t = from_joined occurrences (label_trees node) x among in
    contains_any (λ u. StandsIn (var x) u) (label_trees node) t.0 t.1 (occurrence_stands t.0 x t.2)

-- a variable has one level
pub same_level : (levels : List (ℕ × ℕ)) (x k l : ℕ) → level_of levels x ≡ Some k → level_of levels x ≡ Some l → k ≡ l
same_level levels x k l e f = let d : Some k ≡ Some l = sym e ∙ f in cc

-- numbers are given once
numbered_after : (n k : ℕ) (ls : List ℕ) → n < k → All (λ (p : ℕ × ℕ). n ≢ p.0) (numbered_from k ls)
numbered_after n k [] h = All-nil (λ (p : ℕ × ℕ). n ≢ p.0)
numbered_after n k (l ∷ ls) h = All-cons (λ (p : ℕ × ℕ). n ≢ p.0) (k, l) (numbered_from (k + 1) ls) (λ e. omega (arith, h, e)) (numbered_after n (k + 1) ls (omega (arith, h)))

numbered_once : (n : ℕ) (ls : List ℕ) → AllPairs (λ (p q : ℕ × ℕ). p.0 ≢ q.0) (numbered_from n ls)
numbered_once n [] = λ i j d lt within. absurd (omega (arith, within))
numbered_once n (l ∷ ls) =
    AllPairs-cons (λ (p q : ℕ × ℕ). p.0 ≢ q.0) (n, l) (numbered_from (n + 1) ls) (numbered_after n (n + 1) ls (omega arith)) (numbered_once (n + 1) ls)

pub each_once_numbered : (node : Node) → AllPairs (λ (p q : ℕ × ℕ). p.0 ≢ q.0) (variables_of node)
each_once_numbered node =
    AllPairs-filter (λ (p q : ℕ × ℕ). p.0 ≢ q.0) (λ (p : ℕ × ℕ). is_among p.0 (flat_map occurrences (label_trees node))) (numbered_from 1 node.levels) (numbered_once 1 node.levels)

-- they are those from 1 on
numbered_up : (k n : ℕ) (ls : List ℕ) → n + length ls ≤ k → All (λ (p : ℕ × ℕ). p.0 < k) (numbered_from n ls)
numbered_up k n [] h = All-nil (λ (p : ℕ × ℕ). p.0 < k)
numbered_up k n (l ∷ ls) h =
    All-cons (λ (p : ℕ × ℕ). p.0 < k) (n, l) (numbered_from (n + 1) ls) (omega (arith, h)) (numbered_up k (n + 1) ls (omega (arith, h)))

pub number_below : (node : Node) (p : ℕ × ℕ) → Contains (variables_of node) p → p.0 ≤ length node.levels
number_below node p h =
    let there = from_filtered (λ (p : ℕ × ℕ). is_among p.0 (flat_map occurrences (label_trees node))) (numbered_from 1 node.levels) p h in
    let up = All-contains (λ (p : ℕ × ℕ). p.0 < 1 + length node.levels) (numbered_from 1 node.levels) p (numbered_up (1 + length node.levels) 1 node.levels (omega arith)) there.0 in
    omega (arith, up)

-- a number has the level at its place
from_number : (n : ℕ) (ls : List ℕ) (x l : ℕ) → Contains (numbered_from n ls) (x, l) → (j : ℕ) × (x ≡ n + j) × (slice_get ls j ≡ Some l)
from_number n [] x l h = absurd (contains_none (x, l) h)
from_number n (k ∷ ls) x l h = elim (contains_cases (n, k) (numbered_from (n + 1) ls) (x, l) h) [
  | inl e ↦ let first : x ≡ n = ap (λ (p : ℕ × ℕ). p.0) e in (0, omega (arith, first), ap (λ (p : ℕ × ℕ). Some p.1) (sym e))
  | inr c ↦ let d = from_number (n + 1) ls x l c in (suc d.0, omega (arith, d.1), d.2)
]

to_number : (n : ℕ) (ls : List ℕ) (j l x : ℕ) → x ≡ n + j → slice_get ls j ≡ Some l → Contains (numbered_from n ls) (x, l)
to_number n [] j l x at e = cc
to_number n (k ∷ ls) zero l x at e =
    let same : k ≡ l = cc in
    let first : n ≡ x = omega (arith, at) in
    subst (λ (p : ℕ × ℕ). Contains ((n, k) ∷ numbered_from (n + 1) ls) p) (λ i. (first i, same i)) (contains_first (n, k) (numbered_from (n + 1) ls))
to_number n (k ∷ ls) (suc j) l x at e = contains_later (n, k) (numbered_from (n + 1) ls) (x, l) (to_number (n + 1) ls j l x (omega (arith, at)) e)

-- what is listed once has the level with which it is listed
level_when : (ps : List (ℕ × ℕ)) (x l : ℕ) → AllPairs (λ (p q : ℕ × ℕ). p.0 ≢ q.0) ps → Contains ps (x, l) → level_of ps x ≡ Some l
level_when [] x l once h = absurd (contains_none (x, l) h)
level_when (p ∷ ps) x l once h = elim (contains_cases p ps (x, l) h) [
  | inl e ↦
      ap (λ b. cond b (Some p.1) (level_of ps x)) (eq-eqb p.0 x (ap (λ (q : ℕ × ℕ). q.0) (sym e))) ∙ ap (λ (q : ℕ × ℕ). Some q.1) (sym e)
  | inr c ↦ elim (cases_Bool (nat_eq p.0 x)) [
    | inl d ↦ absurd (All-contains (λ (q : ℕ × ℕ). p.0 ≢ q.0) ps (x, l) (λ k d within. once zero (suc k) d (omega arith) (omega (arith, within))) c (eqb-true p.0 x d))
    | inr d ↦ ap (λ b. cond b (Some p.1) (level_of ps x)) d ∙ level_when ps x l (λ i j d lt within. once (suc i) (suc j) d (omega (arith, lt)) (omega (arith, within))) c
  ]
]

pub listed_level : (node : Node) (p : ℕ × ℕ) → Contains (variables_of node) p → level_of (variables_of node) p.0 ≡ Some p.1
listed_level node p h = level_when (variables_of node) p.0 p.1 (each_once_numbered node) h

pub level_out : (node : Node) (x l : ℕ) → level_of (variables_of node) x ≡ Some l → (j : ℕ) × (x ≡ 1 + j) × (slice_get node.levels j ≡ Some l)
level_out node x l e =
    from_number 1 node.levels x l
    (from_filtered (λ (p : ℕ × ℕ). is_among p.0 (flat_map occurrences (label_trees node))) (numbered_from 1 node.levels) (x, l) (level_is_listed (variables_of node) x l e)).0

pub level_in : (node : Node) (x j l : ℕ) (t : Tree) → x ≡ 1 + j → slice_get node.levels j ≡ Some l → Contains (label_trees node) t → StandsIn (var x) t
    → level_of (variables_of node) x ≡ Some l
level_in node x j l t at e c h =
    listed_level node (x, l)
    (filtered (λ (p : ℕ × ℕ). is_among p.0 (flat_map occurrences (label_trees node))) (numbered_from 1 node.levels) (x, l)
    (to_number 1 node.levels j l x at e)
    (among_true (flat_map occurrences (label_trees node)) x (joined occurrences (label_trees node) t x c (in_occurrences x t h))))
