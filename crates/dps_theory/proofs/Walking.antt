-- The places of the rules with one root, walked through in order.
use Rattle.std.proofs.Common.{◌≡◌, ℕ, zero, suc, ◌+◌, ◌<◌, ◌≤◌, List, [], ◌∷◌, ◌++◌, length, drop, take, map, get_or, true, false, nat_eq, refl, sym, ◌∙◌, ap, arith}
use Rattle.std.proofs.Common.{inl, inr, subst, Some, if◌then◌else◌, slice_set, length-drop, append-nil, ◌-◌, add-one}
use Rattle.std.specs.Prelude.{slice_get, replicate}
use Rattle.std.proofs.lemmas.Bool.{cases_Bool, cases_lt, eqb-true}
use Rattle.std.proofs.lemmas.Option.{none-some}
use Rattle.dps_terms.specs.declared.Sym.{Sym}
use Rattle.dps_terms.specs.Tree.{Tree, Trees, leaf, app}
use Rattle.dps_terms.specs.Replace.{substitute}
use Rattle.dps_signature.specs.Signature.{Shape}
use Rattle.dps_theory.specs.Theory.{Rule, Agree, HasDestructorRoot}
use Rattle.dps_theory.specs.Index.{has_root, places_from, places, listed, IsIndexOf}
use Rattle.dps_theory.specs.Judging.{AgreeBefore}

-- elements of parts of a list
pub slice_get-drop : {X : Type 0} (xs : List X) (m d : ℕ) → slice_get (drop m xs) d ≡ slice_get xs (m + d)
slice_get-drop xs zero d = let e : d ≡ 0 + d = omega arith in ap (slice_get xs) e
slice_get-drop [] (suc m) d = refl
slice_get-drop (x ∷ xs) (suc m) d = slice_get-drop xs m d ∙ (let e : suc (m + d) ≡ suc m + d = omega arith in ap (slice_get (x ∷ xs)) e)

pub drop-drop : {X : Type 0} (xs : List X) (m d : ℕ) → drop d (drop m xs) ≡ drop (m + d) xs
drop-drop xs zero d = let e : d ≡ 0 + d = omega arith in ap (λ k. drop k xs) e
drop-drop [] (suc m) zero = let e : suc (m + 0) ≡ suc m + 0 = omega arith in ap (λ k. drop k []) e
drop-drop [] (suc m) (suc d) = let e : suc (m + suc d) ≡ suc m + suc d = omega arith in ap (λ k. drop k []) e
drop-drop (x ∷ xs) (suc m) d = drop-drop xs m d ∙ (let e : suc (m + d) ≡ suc m + d = omega arith in ap (λ k. drop k (x ∷ xs)) e)

pub slice_get-take : {X : Type 0} (xs : List X) (n k : ℕ) → k < n → slice_get (take n xs) k ≡ slice_get xs k
slice_get-take xs zero k h = absurd (omega arith)
slice_get-take [] (suc n) k h = refl
slice_get-take (x ∷ xs) (suc n) zero h = refl
slice_get-take (x ∷ xs) (suc n) (suc k) h = slice_get-take xs n k (omega arith)

-- different roots
roots_differ : (f g : Sym) (ts us : Trees) (n : ℕ) → has_root n (app g us) ≡ true → has_root n (app f ts) ≡ false → (y z : ℕ → Tree) → substitute y (app f ts) ≡ substitute z (app g us) → ⊥
roots_differ f g ts us n h other y z e =
    let same : f ≡ g = cc in
    let k : nat_eq g.number n ≡ false = sym (ap (λ s. nat_eq s.number n) same) ∙ other in
    let m : true ≡ false = sym h ∙ k in cc

pub other_root_agrees : (shapes : List Shape) (r q : Rule) (n : ℕ) → HasDestructorRoot shapes r.left → has_root n q.left ≡ true → has_root n r.left ≡ false → Agree r q
other_root_agrees shapes r q n d h other y z e = absurd (go r.left q.left d h other e)
  where
    go : (t u : Tree) → HasDestructorRoot shapes t → has_root n u ≡ true → has_root n t ≡ false → substitute y t ≡ substitute z u → ⊥
    go (leaf x) u k a b c = k
    go (app f ts) (leaf x) k a b c = cc
    go (app f ts) (app g us) k a b c = roots_differ f g ts us n a b y z c

-- the next place
pub record Next (m g place : ℕ) (rest : List ℕ) (rules : List Rule) : Type 0 where
  pub skipped : ℕ
  pub is : place ≡ m + skipped
  pub within : skipped < length rules
  pub others : (k : ℕ) (r : Rule) → k < skipped → slice_get rules k ≡ Some r → has_root g r.left ≡ false
  pub rest_is : rest ≡ places_from (suc (m + skipped)) (drop (suc skipped) rules) g

next_here : (m g place : ℕ) (rest : List ℕ) (r : Rule) (rules : List Rule) → place ∷ rest ≡ m ∷ places_from (suc m) rules g → Next m g place rest (r ∷ rules)
next_here m g place rest r rules e = record {
  skipped = 0;
  is = (let k : place ≡ m = cc in k ∙ omega arith);
  within = omega arith;
  others = λ k s h _. absurd (omega arith);
  rest_is = (let k : rest ≡ places_from (suc m) rules g = cc in k ∙ ap (λ j. places_from j rules g) (omega arith));
}

next_later : (m g place : ℕ) (rest : List ℕ) (r : Rule) (rules : List Rule) → has_root g r.left ≡ false → Next (suc m) g place rest rules → Next m g place rest (r ∷ rules)
next_later m g place rest r rules other n = record {
  skipped = suc n.skipped;
  is = n.is ∙ omega arith;
  within = (let w = n.within in omega arith);
  others = others;
  rest_is = n.rest_is ∙ ap (λ j. places_from j (drop (suc n.skipped) rules) g) (omega arith);
}
  where
    others : (k : ℕ) (s : Rule) → k < suc n.skipped → slice_get (r ∷ rules) k ≡ Some s → has_root g s.left ≡ false
    others zero s h e = let d : r ≡ s = cc in subst (λ q. has_root g q.left ≡ false) d other
    others (suc k) s h e = n.others k s (omega arith) e

pub next_place : (rules : List Rule) (m g place : ℕ) (rest : List ℕ) → place ∷ rest ≡ places_from m rules g → Next m g place rest rules
next_place [] m g place rest e = cc
next_place (r ∷ rules) m g place rest e =
    elim (cases_Bool (has_root g r.left)) [
      | inl h ↦ next_here m g place rest r rules (e ∙ ap (λ b. if b then m ∷ places_from (suc m) rules g else places_from (suc m) rules g) h)
      | inr h ↦ next_later m g place rest r rules h (next_place rules (suc m) g place rest (e ∙ ap (λ b. if b then m ∷ places_from (suc m) rules g else places_from (suc m) rules g) h))
    ]

pub no_place : (rules : List Rule) (m g : ℕ) → [] ≡ places_from m rules g → (k : ℕ) (r : Rule) → slice_get rules k ≡ Some r → has_root g r.left ≡ false
no_place [] m g e k r d = absurd (none-some r d)
no_place (q ∷ rules) m g e zero r d =
    elim (cases_Bool (has_root g q.left)) [
      | inl h ↦ let c = e ∙ ap (λ b. if b then m ∷ places_from (suc m) rules g else places_from (suc m) rules g) h in cc
      | inr h ↦ let same : q ≡ r = cc in subst (λ s. has_root g s.left ≡ false) same h
    ]
no_place (q ∷ rules) m g e (suc k) r d =
    elim (cases_Bool (has_root g q.left)) [
      | inl h ↦ let c = e ∙ ap (λ b. if b then m ∷ places_from (suc m) rules g else places_from (suc m) rules g) h in cc
      | inr h ↦ no_place rules (suc m) g (e ∙ ap (λ b. if b then m ∷ places_from (suc m) rules g else places_from (suc m) rules g) h) k r d
    ]

-- a walk through the places of a rule's root: the rules before the next place agree with the rule
pub record Walk (rules : List Rule) (q : Rule) (remaining : List ℕ) : Type 0 where
  pub root : ℕ
  pub has : has_root root q.left ≡ true
  pub from : ℕ
  pub agrees : AgreeBefore rules from q
  pub places_left : remaining ≡ places_from from (drop from rules) root

pub walk_start : (rules : List Rule) (q : Rule) (g : ℕ) (all : List ℕ) → has_root g q.left ≡ true → all ≡ places rules g → Walk rules q all
walk_start rules q g all h e = record {
  root = g;
  has = h;
  from = 0;
  agrees = λ k r l _. absurd (omega arith);
  places_left = e;
}

module _ (shapes : List Shape) (rules : List Rule) (q : Rule) (forms : (k : ℕ) (r : Rule) → slice_get rules k ≡ Some r → HasDestructorRoot shapes r.left) where
  -- at the next place
  module _ (place : ℕ) (rest : List ℕ) (w : Walk rules q (place ∷ rest)) where
    at_next : Next w.from w.root place rest (drop w.from rules)
    at_next = next_place (drop w.from rules) w.from w.root place rest w.places_left

    pub walk_within : place < length rules
    walk_within =
        let n = at_next in
        let i = n.is in
        let l = n.within in
        omega (arith, length-drop w.from rules)

    pub walk_agrees : AgreeBefore rules place q
    walk_agrees k r h e =
        elim (cases_lt k w.from) [
          | inl o ↦ w.agrees k r o e
          | inr o ↦
              let n = at_next in
              let i = n.is in
              let d : w.from + (k - w.from) ≡ k = omega arith in
              let other = n.others (k - w.from) r (omega arith) (slice_get-drop rules w.from (k - w.from) ∙ ap (slice_get rules) d ∙ e) in
              other_root_agrees shapes r q w.root (forms k r e) w.has other
        ]

    pub walk_on : ((r : Rule) → slice_get rules place ≡ Some r → Agree r q) → Walk rules q rest
    walk_on here = record {
      root = w.root;
      has = w.has;
      from = suc place;
      agrees = λ k r h e.
          elim (cases_lt k place) [
            | inl o ↦ walk_agrees k r o e
            | inr o ↦ here r (ap (slice_get rules) (let c : place ≡ k = omega arith in c) ∙ e)
          ];
      places_left =
          (let n = at_next in
          n.rest_is
          ∙ (λ i. places_from (suc (sym n.is i)) (drop-drop rules w.from (suc n.skipped) i) w.root)
          ∙ (let i = n.is in let e : w.from + suc n.skipped ≡ suc place = omega arith in ap (λ k. places_from (suc place) (drop k rules) w.root) e));
    }

  pub walk_end : Walk rules q [] → (k : ℕ) (r : Rule) → slice_get rules k ≡ Some r → Agree r q
  walk_end w k r e =
      elim (cases_lt k w.from) [
        | inl o ↦ w.agrees k r o e
        | inr o ↦
            let d : w.from + (k - w.from) ≡ k = omega arith in
            let other = no_place (drop w.from rules) w.from w.root w.places_left (k - w.from) r (slice_get-drop rules w.from (k - w.from) ∙ ap (slice_get rules) d ∙ e) in
            other_root_agrees shapes r q w.root (forms k r e) w.has other
      ]

-- one more rule in the index
places_push : (rules : List Rule) (r : Rule) (m g : ℕ) → places_from m (rules ++ r ∷ []) g ≡ places_from m rules g ++ (if has_root g r.left then (m + length rules) ∷ [] else [])
places_push [] r m g =
    elim (cases_Bool (has_root g r.left)) [
      | inl h ↦ rw h (ap (λ k. k ∷ []) (omega arith))
      | inr h ↦ rw h refl
    ]
places_push (q ∷ rules) r m g =
    let later = places_push rules r (suc m) g ∙ ap (λ k. places_from (suc m) rules g ++ (if has_root g r.left then k ∷ [] else [])) (let c : suc m + length rules ≡ m + length (q ∷ rules) = omega arith in c) in
    elim (cases_Bool (has_root g q.left)) [
      | inl h ↦ rw h (ap (λ l. m ∷ l) later)
      | inr h ↦ rw h later
    ]

listed_set_same : (lists : List (List ℕ)) (f : ℕ) (l : List ℕ) → f < length lists → listed (slice_set lists f l) f ≡ l
listed_set_same [] f l h = absurd (omega arith)
listed_set_same (x ∷ lists) zero l h = refl
listed_set_same (x ∷ lists) (suc f) l h = listed_set_same lists f l (omega arith)

listed_set_other : (lists : List (List ℕ)) (f g : ℕ) (l : List ℕ) → (f ≡ g → ⊥) → listed (slice_set lists f l) g ≡ listed lists g
listed_set_other [] f g l h = refl
listed_set_other (x ∷ lists) zero zero l h = absurd (h refl)
listed_set_other (x ∷ lists) zero (suc g) l h = refl
listed_set_other (x ∷ lists) (suc f) zero l h = refl
listed_set_other (x ∷ lists) (suc f) (suc g) l h = listed_set_other lists f g l (λ e. h (ap suc e))

root_is_one : (t : Tree) (f g : ℕ) → has_root f t ≡ true → has_root g t ≡ true → f ≡ g
root_is_one (leaf x) f g a b = cc
root_is_one (app h ts) f g a b = sym (eqb-true h.number f a) ∙ eqb-true h.number g b

pub index_next :
    (rules : List Rule) (r : Rule) (lists after : List (List ℕ)) (f place : ℕ) → IsIndexOf rules lists → has_root f r.left ≡ true → f < length lists
    → place ≡ length rules → after ≡ slice_set lists f (listed lists f ++ place ∷ []) → IsIndexOf (rules ++ r ∷ []) after
index_next rules r lists after f place h root within is a g =
    ap (λ l. listed l g) a
    ∙ elim (cases_Bool (has_root g r.left)) [
      | inl o ↦
          let e : f ≡ g = root_is_one r.left f g root o in
          ap (listed (slice_set lists f (listed lists f ++ place ∷ []))) (sym e)
          ∙ listed_set_same lists f (listed lists f ++ place ∷ []) within
          ∙ (λ i. h f i ++ is i ∷ [])
          ∙ ap (λ k. places rules k ++ length rules ∷ []) e
          ∙ sym (places_push rules r 0 g ∙ rw o (ap (λ k. places rules g ++ k ∷ []) (omega arith)))
      | inr o ↦
          listed_set_other lists f g (listed lists f ++ place ∷ []) (λ e. let c : true ≡ false = sym root ∙ ap (λ k. has_root k r.left) e ∙ o in cc)
          ∙ h g
          ∙ sym (places_push rules r 0 g ∙ rw o (append-nil (places rules g)))
    ]

replicate_more : {X : Type 0} (x : X) (k : ℕ) → replicate k x ++ x ∷ [] ≡ replicate (suc k) x
replicate_more x zero = refl
replicate_more x (suc k) = ap (λ l. x ∷ l) (replicate_more x k)

pub replicate_next : {X : Type 0} (x : X) (done after : List X) (n : ℕ) → done ≡ replicate n x → after ≡ done ++ x ∷ [] → after ≡ replicate (n + 1) x
replicate_next x done after n h e = e ∙ ap (λ l. l ++ x ∷ []) h ∙ replicate_more x n ∙ ap (λ k. replicate k x) (sym (add-one n))

-- the index of one more rule of a list
taken_one : {X : Type 0} (xs : List X) (n : ℕ) (x : X) → slice_get xs n ≡ Some x → take (suc n) xs ≡ take n xs ++ x ∷ []
taken_one [] n x e = absurd (none-some x e)
taken_one (y ∷ xs) zero x e = let d : y ≡ x = cc in ap (λ o. o ∷ []) d
taken_one (y ∷ xs) (suc n) x e = ap (λ l. y ∷ l) (taken_one xs n x e)

length_front : {X : Type 0} (xs : List X) (n : ℕ) → n ≤ length xs → length (take n xs) ≡ n
length_front xs zero h = refl
length_front [] (suc n) h = absurd (omega arith)
length_front (x ∷ xs) (suc n) h = ap suc (length_front xs n (omega arith))

one_at : {X : Type 0} (xs : List X) (n : ℕ) → n < length xs → (x : X) × (slice_get xs n ≡ Some x)
one_at [] n h = absurd (omega arith)
one_at (x ∷ xs) zero h = (x, refl)
one_at (x ∷ xs) (suc n) h = one_at xs n (omega arith)

pub index_taken :
    (rules : List Rule) (place f : ℕ) (lists after : List (List ℕ)) → IsIndexOf (take place rules) lists
    → ((r : Rule) → slice_get rules place ≡ Some r → has_root f r.left ≡ true) → f < length lists → place < length rules
    → after ≡ slice_set lists f (listed lists f ++ place ∷ []) → IsIndexOf (take (place + 1) rules) after
index_taken rules place f lists after h root within inside a =
    let r = one_at rules place inside in
    let len : place ≡ length (take place rules) = sym (length_front rules place (omega arith)) in
    subst (λ rs. IsIndexOf rs after) (sym (ap (λ k. take k rules) (add-one place) ∙ taken_one rules place r.0 r.1))
    (index_next (take place rules) r.0 lists after f place h (root r.0 r.1) within len a)

-- one more element of a list of lists
take_mapped_suc : {X Y : Type 0} (F : X → Y) (xs : List X) (i : ℕ) (d : X) → i < length xs → take (suc i) (map F xs) ≡ take i (map F xs) ++ F (get_or xs i d) ∷ []
take_mapped_suc F [] i d l = absurd (omega arith)
take_mapped_suc F (x ∷ xs) zero d l = refl
take_mapped_suc F (x ∷ xs) (suc i) d l = ap (λ k. F x ∷ k) (take_mapped_suc F xs i d (omega arith))

pub take_mapped : {X Y : Type 0} (F : X → Y) (xs : List X) (i : ℕ) (d : X) → i < length xs → take (i + 1) (map F xs) ≡ take i (map F xs) ++ F (get_or xs i d) ∷ []
take_mapped F xs i d l = ap (λ k. take k (map F xs)) (add-one i) ∙ take_mapped_suc F xs i d l
