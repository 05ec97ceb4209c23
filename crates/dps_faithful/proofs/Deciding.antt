-- Whether patterns have a match.
use Rattle.std.proofs.Common.{◌≡◌, ℕ, List, [], ◌∷◌, refl, sym, ◌∙◌, ap, subst, inl, inr, cond, nat_eq, true, false, Option, Some, None}
use Rattle.std.specs.Prelude.{◌⊎◌, Contains, All, unwrap_or, if◌then◌else◌}
use Rattle.std.proofs.lemmas.Bool.{cases_Bool, eqb-true, eq-eqb}
use Rattle.std.proofs.lemmas.List.Elements.{All-nil, All-cons, All-head, All-tail, All-contains}
use Rattle.std.proofs.lemmas.Map.Views.{Contains-from_any}
use Rattle.dps_terms.specs.declared.Sym.{Sym}
use Rattle.dps_terms.specs.Tree.{Leaf, public, private, var, ax, entry, rigid, Tree, Trees, leaf, app, none, more, StandsIn, IsAmong, itself, below, in_first, in_rest}
use Rattle.dps_terms.specs.Replace.{replace_all, substitute, variables_to}
use Rattle.dps_terms.specs.Same.{same, same-true, same-self}
use Rattle.dps_unify.specs.Matching.{Keeps}
use Rattle.dps_unify.proofs.Trees.{substitute_agrees}
use Rattle.dps_symeval.proofs.Listed.{contains_none, contains_first, contains_later, contains_cases}
use Rattle.dps_renewal.specs.Numbering.{is_among}
use Rattle.dps_solver.specs.Solutions.{IsMatched}
use Rattle.dps_directions.proofs.Respecting.{contains_or_not}
use Rattle.dps_faithful.proofs.Lists.{among_true}

-- the first of the two that is there
abbrev either : Option Tree → Option Tree → Option Tree
either (Some t) o = Some t
either None o = o

abbrev seen_leaf : ℕ → Leaf → Tree → Option Tree
seen_leaf n (var m) t = if nat_eq m n then Some t else None
seen_leaf n x t = None

abbrev arguments_of : Tree → Trees
arguments_of (leaf x) = none
arguments_of (app f ts) = ts

abbrev head_of : Trees → Tree → Tree
head_of none t = t
head_of (more u us) t = u

abbrev tail_of : Trees → Trees
tail_of none = none
tail_of (more u us) = us

-- what stands in a tree at the first place that has the variable in the pattern
mutual
  seen : ℕ → Tree → Tree → Option Tree
  seen n (leaf x) t = seen_leaf n x t
  seen n (app f ps) t = all_seen n ps (arguments_of t)

  all_seen : ℕ → Trees → Trees → Option Tree
  all_seen n none ts = None
  all_seen n (more p ps) ts = either (seen n p (head_of ts p)) (all_seen n ps (tail_of ts))

-- in an instance of the pattern that is what was put there
abbrev IsSeen : ℕ → Tree → Tree → Option Tree → Type 0
IsSeen n p u o = ((o ≡ None) × ¬ StandsIn (var n) p) ⊎ (o ≡ Some u)

abbrev AreSeen : ℕ → Trees → Tree → Option Tree → Type 0
AreSeen n ps u o = ((o ≡ None) × ¬ IsAmong (leaf (var n)) ps) ⊎ (o ≡ Some u)

seen_at_leaf : (r : ℕ → Tree) (n : ℕ) (x : Leaf) → IsSeen n (leaf x) (r n) (seen_leaf n x (variables_to r x))
seen_at_leaf r n (public k) = inl (refl, λ h. elim h [ ])
seen_at_leaf r n (private k) = inl (refl, λ h. elim h [ ])
seen_at_leaf r n (ax k) = inl (refl, λ h. elim h [ ])
seen_at_leaf r n (entry k) = inl (refl, λ h. elim h [ ])
seen_at_leaf r n (rigid k) = inl (refl, λ h. elim h [ ])
seen_at_leaf r n (var m) = elim (cases_Bool (nat_eq m n)) [
  | inl e ↦ inr (ap (λ b. cond b (Some (r m)) None) e ∙ ap (λ k. Some (r k)) (eqb-true m n e))
  | inr e ↦ inl (ap (λ b. cond b (Some (r m)) None) e, λ h. differs m n e (number n m (alone (var n) (var m) h)))
]
  where
    alone : (l k : Leaf) → StandsIn l (leaf k) → l ≡ k
    alone l k itself = refl

    number : (j k : ℕ) → var j ≡ var k → j ≡ k
    number j k e = cc

    differs : (j k : ℕ) → nat_eq j k ≡ false → k ≡ j → ⊥
    differs j k e same = let q : true ≡ false = sym (eq-eqb j k (sym same)) ∙ e in cc

seen_either : (n : ℕ) (p : Tree) (ps : Trees) (u : Tree) (a b : Option Tree) → IsSeen n p u a → AreSeen n ps u b → AreSeen n (more p ps) u (either a b)
seen_either n p ps u a b (inr e) h = inr (ap (λ (o : Option Tree). either o b) e)
seen_either n p ps u a b (inl e) (inr k) = inr (ap (λ (o : Option Tree). either o b) e.0 ∙ k)
seen_either n p ps u a b (inl e) (inl k) = inl (ap (λ (o : Option Tree). either o b) e.0 ∙ k.0, λ h. nowhere h e.1 k.1)
  where
    nowhere : {p : Tree} {ps : Trees} → IsAmong (leaf (var n)) (more p ps) → ¬ StandsIn (var n) p → ¬ IsAmong (leaf (var n)) ps → ⊥
    nowhere (in_first k) f g = f k
    nowhere (in_rest k) f g = g k

mutual
  unfolding seen all_seen

  seen_says : (r : ℕ → Tree) (n : ℕ) (p : Tree) → IsSeen n p (r n) (seen n p (substitute r p))
  seen_says r n (leaf x) = seen_at_leaf r n x
  seen_says r n (app f ps) = at (all_seen n ps (replace_all (variables_to r) ps)) (all_seen_say r n ps)
    where
      outside : {f : Sym} {ps : Trees} → StandsIn (var n) (app f ps) → ¬ IsAmong (leaf (var n)) ps → ⊥
      outside (below k) h = h k

      at : (o : Option Tree) → AreSeen n ps (r n) o → IsSeen n (app f ps) (r n) o
      at o (inl h) = inl (h.0, λ k. outside k h.1)
      at o (inr h) = inr h

  all_seen_say : (r : ℕ → Tree) (n : ℕ) (ps : Trees) → AreSeen n ps (r n) (all_seen n ps (replace_all (variables_to r) ps))
  all_seen_say r n none = inl (refl, λ h. elim h [ ])
  all_seen_say r n (more p ps) =
      seen_either n p ps (r n) (seen n p (substitute r p)) (all_seen n ps (replace_all (variables_to r) ps)) (seen_says r n p) (all_seen_say r n ps)

-- the same over pairs
seen_in : ℕ → List (Tree × Tree) → Option Tree
seen_in n [] = None
seen_in n (q ∷ qs) = either (seen n q.1 q.0) (seen_in n qs)

seen_in_says : (r : ℕ → Tree) (n : ℕ) (pairs : List (Tree × Tree)) → All (λ (p : Tree × Tree). substitute r p.1 ≡ p.0) pairs
    → (p : Tree × Tree) → Contains pairs p → StandsIn (var n) p.1 → seen_in n pairs ≡ Some (r n)
unfolding seen_in
seen_in_says r n [] h p c k = absurd (contains_none p c)
seen_in_says r n (q ∷ qs) h p c k =
    let e : substitute r q.1 ≡ q.0 = All-head (λ (p : Tree × Tree). substitute r p.1 ≡ p.0) q qs h in
    let first : IsSeen n q.1 (r n) (seen n q.1 q.0) = subst (λ (t : Tree). IsSeen n q.1 (r n) (seen n q.1 t)) e (seen_says r n q.1) in
    elim first [
      | inr s ↦ ap (λ (o : Option Tree). either o (seen_in n qs)) s
      | inl s ↦ elim (contains_cases q qs p c) [
        | inl d ↦ absurd (s.1 (subst (λ (x : Tree × Tree). StandsIn (var n) x.1) d k))
        | inr d ↦ ap (λ (o : Option Tree). either o (seen_in n qs)) s.0 ∙ seen_in_says r n qs (All-tail (λ (p : Tree × Tree). substitute r p.1 ≡ p.0) q qs h) p d k
      ]
    ]

-- so only one substitution may match
only_match : List ℕ → List (Tree × Tree) → ℕ → Tree
only_match free pairs n = if is_among n free then unwrap_or (seen_in n pairs) (leaf (var n)) else leaf (var n)

only_keeps : (free : List ℕ) (pairs : List (Tree × Tree)) → Keeps free (only_match free pairs)
unfolding only_match
only_keeps free pairs n h = elim (cases_Bool (is_among n free)) [
  | inl e ↦ absurd (h (Contains-from_any (λ (j k : ℕ). eqb-true j k) n free e))
  | inr e ↦ ap (λ b. cond b (unwrap_or (seen_in n pairs) (leaf (var n))) (leaf (var n))) e
]

only_agrees : (free : List ℕ) (pairs : List (Tree × Tree)) (r : ℕ → Tree) → Keeps free r → All (λ (p : Tree × Tree). substitute r p.1 ≡ p.0) pairs
    → (p : Tree × Tree) → Contains pairs p → (n : ℕ) → StandsIn (var n) p.1 → only_match free pairs n ≡ r n
unfolding only_match
only_agrees free pairs r keeps h p c n k = elim (cases_Bool (is_among n free)) [
  | inl e ↦ ap (λ b. cond b (unwrap_or (seen_in n pairs) (leaf (var n))) (leaf (var n))) e
      ∙ ap (λ (o : Option Tree). unwrap_or o (leaf (var n))) (seen_in_says r n pairs h p c k)
  | inr e ↦ ap (λ b. cond b (unwrap_or (seen_in n pairs) (leaf (var n))) (leaf (var n))) e ∙ sym (kept e)
]
  where
    kept : is_among n free ≡ false → r n ≡ leaf (var n)
    kept e = elim (contains_or_not free n) [
      | inl c ↦ absurd (let q : true ≡ false = sym (among_true free n c) ∙ e in cc)
      | inr d ↦ keeps n d
    ]

decide_each : (r : ℕ → Tree) (pairs : List (Tree × Tree))
    → All (λ (p : Tree × Tree). substitute r p.1 ≡ p.0) pairs ⊎ ((p : Tree × Tree) × Contains pairs p × ¬ (substitute r p.1 ≡ p.0))
decide_each r [] = inl (All-nil (λ (p : Tree × Tree). substitute r p.1 ≡ p.0))
decide_each r (q ∷ qs) = elim (cases_Bool (same (substitute r q.1) q.0)) [
  | inl e ↦ elim (decide_each r qs) [
    | inl h ↦ inl (All-cons (λ (p : Tree × Tree). substitute r p.1 ≡ p.0) q qs (same-true (substitute r q.1) q.0 e) h)
    | inr h ↦ inr (h.0, contains_later q qs h.0 h.1, h.2)
  ]
  | inr e ↦ inr (q, contains_first q qs, λ d. let k : true ≡ false = sym (ap (λ (t : Tree). same (substitute r q.1) t) (sym d) ∙ same-self (substitute r q.1)) ∙ e in cc)
]

pub matched_or_not : (free : List ℕ) (pairs : List (Tree × Tree)) → IsMatched free pairs ⊎ ¬ IsMatched free pairs
matched_or_not free pairs = elim (decide_each (only_match free pairs) pairs) [
  | inl h ↦ inl (only_match free pairs, only_keeps free pairs, h)
  | inr h ↦ inr (λ m. h.2 (
      substitute_agrees (only_match free pairs) m.0 h.0.1 (λ n k. only_agrees free pairs m.0 m.1 m.2 h.0 h.1 n k)
      ∙ All-contains (λ (p : Tree × Tree). substitute m.0 p.1 ≡ p.0) pairs h.0 m.2 h.1))
]
