-- Numbers of names, as they are collected and as new ones are chosen.
use Rattle.std.proofs.Common.{◌≡◌, ℕ, zero, suc, ◌+◌, ◌<◌, ◌≤◌, List, [], ◌∷◌, ◌++◌, take, drop, length, slice_get, nat_eq, Some, refl, sym, ◌∙◌, ap, subst, arith, inl, inr, true, false}
use Rattle.std.specs.Prelude.{◌⊎◌, Contains, cond, ⊤}
use Rattle.std.proofs.lemmas.List.{take-append-drop, drop_all, drop_more}
use Rattle.std.proofs.lemmas.Bool.{cases_Bool, cases_lt, eqb-true, eq-eqb}
use Rattle.std.proofs.lemmas.List.Elements.{Contains-append_left, Contains-push, Contains-push_cases}
use Rattle.std.proofs.lemmas.Option.{slice_get_within, slice_get-get_or, get_or_from_slice_get}
use Rattle.dps_terms.specs.declared.PublicName.TheVariants.{At}
use Rattle.dps_terms.specs.declared.borrowed.TermView.TheVariants.{Public, Rigid}
use Rattle.dps_terms.specs.Tree.{Leaf, public, rigid, Tree, Trees, leaf, app, none, more, list_of, StandsIn, IsAmong, below, in_first, in_rest}
use Rattle.dps_terms.specs.Views.{view_of, arguments}
use Rattle.dps_unify.proofs.Trees.{in_leaf}
use Rattle.dps_static.specs.Naming.{Adds, AddsRoot, AreRising, IsNamed, AreNamed, AreNew, number_of}
use Rattle.dps_static.specs.declared.naming.NewName.{NewName}
use Rattle.dps_static.specs.declared.naming.Numbers.{Numbers}

-- the leaf stands in one of the trees
abbrev pub Holds : Leaf → List Tree → Type 0
Holds x [] = ⊥
Holds x (t ∷ ts) = StandsIn x t ⊎ Holds x ts

-- the trees behind a node
parts_behind : (t : Tree) (here after : List Tree) → arguments t ≡ take (length (arguments t)) after → after ≡ arguments t ++ drop (length (arguments t)) after
parts_behind t here after front = sym (take-append-drop (length (arguments t)) after) ∙ ap (λ us. us ++ drop (length (arguments t)) after) (sym front)

-- the numbers of names in the tree were added, but for names in the trees that are left
pub record AddsUpTo (old new : Numbers) (t : Tree) (left : List Tree) : Type 0 where
  pub rigid_kept : (k : ℕ) → Contains old.rigid.items k → Contains new.rigid.items k
  pub own_kept : (k : ℕ) → Contains old.own.items k → Contains new.own.items k
  pub rigid_there : (k : ℕ) → StandsIn (rigid k) t → Contains new.rigid.items k ⊎ Holds (rigid k) left
  pub own_there : (k : ℕ) → StandsIn (public (At k)) t → Contains new.own.items k ⊎ Holds (public (At k)) left

pub adds_none : (numbers : Numbers) (t : Tree) (left : List Tree) → left ≡ t ∷ [] → AddsUpTo numbers numbers t left
adds_none numbers t left e = record {
  rigid_kept = λ k c. c;
  own_kept = λ k c. c;
  rigid_there = λ k s. inr (subst (Holds (rigid k)) (sym e) (inl s));
  own_there = λ k s. inr (subst (Holds (public (At k))) (sym e) (inl s));
}

pub adds_all : (old new : Numbers) (t : Tree) (left : List Tree) → left ≡ [] → AddsUpTo old new t left → Adds old new t
adds_all old new t left e all = record {
  rigid_kept = all.rigid_kept;
  own_kept = all.own_kept;
  rigid_there = λ k s. elim (all.rigid_there k s) [ inl c ↦ c | inr h ↦ absurd (subst (Holds (rigid k)) e h) ];
  own_there = λ k s. elim (all.own_there k s) [ inl c ↦ c | inr h ↦ absurd (subst (Holds (public (At k))) e h) ];
}

-- a leaf in the first tree is its root, or stands in its arguments
among_holds : (x : Leaf) (ts : Trees) (us : List Tree) → IsAmong (leaf x) ts → Holds x (list_of ts ++ us)
among_holds x none us k = elim k [ ]
among_holds x (more t ts) us (in_first k) = inl k
among_holds x (more t ts) us (in_rest k) = inr (among_holds x ts us k)

first_holds : (x : Leaf) (t : Tree) (us : List Tree) → StandsIn x t → (leaf x ≡ t) ⊎ Holds x (arguments t ++ us)
first_holds x (leaf y) us s = inl (in_leaf y (leaf x) s)
first_holds x (app f ts) us (below k) = inr (among_holds x ts us k)

behind_holds : (x : Leaf) (ts us : List Tree) → Holds x us → Holds x (ts ++ us)
behind_holds x [] us k = k
behind_holds x (t ∷ ts) us k = inr (behind_holds x ts us k)

next_holds :
    (x : Leaf) (t : Tree) (here after : List Tree) → here ≡ t ∷ drop (length (arguments t)) after → arguments t ≡ take (length (arguments t)) after → Holds x here
    → (leaf x ≡ t) ⊎ Holds x after
next_holds x t here after first front h =
    let rest = drop (length (arguments t)) after in
    subst (λ us. (leaf x ≡ t) ⊎ Holds x us) (sym (parts_behind t here after front)) (at (subst (Holds x) first h))
  where
    at : Holds x (t ∷ drop (length (arguments t)) after) → (leaf x ≡ t) ⊎ Holds x (arguments t ++ drop (length (arguments t)) after)
    at (inl s) = first_holds x t (drop (length (arguments t)) after) s
    at (inr k) = inr (behind_holds x (arguments t) (drop (length (arguments t)) after) k)

pub adds_next :
    (old now new : Numbers) (whole t : Tree) (here after : List Tree) → here ≡ t ∷ drop (length (arguments t)) after → arguments t ≡ take (length (arguments t)) after
    → AddsUpTo old now whole here → AddsRoot now new t → AddsUpTo old new whole after
adds_next old now new whole t here after first front up root = record {
  rigid_kept = λ k c. root.rigid_kept k (up.rigid_kept k c);
  own_kept = λ k c. root.own_kept k (up.own_kept k c);
  rigid_there = λ k s.
      elim (up.rigid_there k s) [
        | inl c ↦ inl (root.rigid_kept k c)
        | inr h ↦ elim (next_holds (rigid k) t here after first front h) [ inl e ↦ inl (root.rigid_there k (ap view_of e)) | inr o ↦ inr o ]
      ];
  own_there = λ k s.
      elim (up.own_there k s) [
        | inl c ↦ inl (root.own_kept k c)
        | inr h ↦ elim (next_holds (public (At k)) t here after first front h) [ inl e ↦ inl (root.own_there k (ap view_of e)) | inr o ↦ inr o ]
      ];
}

-- the root
pub adds_rigid : (old new : Numbers) (t : Tree) (n : ℕ) → Rigid n ≡ view_of t → new.rigid.items ≡ old.rigid.items ++ n ∷ [] → new.own.items ≡ old.own.items → AddsRoot old new t
adds_rigid old new t n v e d = record {
  rigid_kept = λ k c. subst (λ ns. Contains ns k) (sym e) (Contains-append_left old.rigid.items (n ∷ []) k c);
  own_kept = λ k c. subst (λ ns. Contains ns k) (sym d) c;
  rigid_there = λ k u.
      let both : Rigid n ≡ Rigid k = v ∙ sym u in
      let same : n ≡ k = cc in
      subst (λ ns. Contains ns k) (sym e) (subst (λ i. Contains (old.rigid.items ++ n ∷ []) i) same (Contains-push old.rigid.items n));
  own_there = λ k u. absurd (let both : Rigid n ≡ Public (At k) = v ∙ sym u in cc);
}

pub adds_own : (old new : Numbers) (t : Tree) (n : ℕ) → Public (At n) ≡ view_of t → new.own.items ≡ old.own.items ++ n ∷ [] → new.rigid.items ≡ old.rigid.items → AddsRoot old new t
adds_own old new t n v e d = record {
  rigid_kept = λ k c. subst (λ ns. Contains ns k) (sym d) c;
  own_kept = λ k c. subst (λ ns. Contains ns k) (sym e) (Contains-append_left old.own.items (n ∷ []) k c);
  rigid_there = λ k u. absurd (let both : Public (At n) ≡ Rigid k = v ∙ sym u in cc);
  own_there = λ k u.
      let both : Public (At n) ≡ Public (At k) = v ∙ sym u in
      let same : n ≡ k = cc in
      subst (λ ns. Contains ns k) (sym e) (subst (λ i. Contains (old.own.items ++ n ∷ []) i) same (Contains-push old.own.items n));
}

pub adds_other : (numbers : Numbers) (t : Tree) → ((k : ℕ) → ¬ (Rigid k ≡ view_of t)) → ((k : ℕ) → ¬ (Public (At k) ≡ view_of t)) → AddsRoot numbers numbers t
adds_other numbers t no_rigid no_own = record {
  rigid_kept = λ k c. c;
  own_kept = λ k c. c;
  rigid_there = λ k u. absurd (no_rigid k u);
  own_there = λ k u. absurd (no_own k u);
}

-- names are chosen one by one
abbrev AreBefore : ℕ → List NewName → Type 0
AreBefore end [] = ⊤
AreBefore end (name ∷ names) = (name.number < end) × AreBefore end names

pub record AreNamedFirst (wanted taken : List ℕ) (names : List NewName) (end n : ℕ) : Type 0 where
  pub rise : AreRising 0 names
  pub before : AreBefore end names
  pub named : (i k : ℕ) → i < n → slice_get wanted i ≡ Some k → IsNamed names k
  pub free : (name : NewName) → Contains names name → ¬ Contains taken name.number

pub named_none : (wanted taken : List ℕ) → AreNamedFirst wanted taken [] 0 0
named_none wanted taken = record {
  rise = tt;
  before = tt;
  named = λ i k h. absurd (omega (arith, h));
  free = λ name c. absurd (let l = c.1 in omega (arith, l));
}

rising_further : (from end n k : ℕ) (names : List NewName) → AreRising from names → AreBefore end names → from ≤ n → end ≤ n → AreRising from (names ++ record { rigid = k; number = n } ∷ [])
rising_further from end n k [] r b h l = (h, tt)
rising_further from end n k (name ∷ names) r b h l = (r.0, rising_further (suc name.number) end n k names r.1 b.1 (let m = b.0 in omega (arith, m, l)) l)

before_further : (end later n k : ℕ) (names : List NewName) → AreBefore end names → end ≤ later → n < later → AreBefore later (names ++ record { rigid = k; number = n } ∷ [])
before_further end later n k [] b h l = (l, tt)
before_further end later n k (name ∷ names) b h l = ((let m = b.0 in omega (arith, m, h)), before_further end later n k names b.1 h l)

pub named_next :
    (wanted taken : List ℕ) (names new : List NewName) (end n k i : ℕ) → slice_get wanted i ≡ Some k → end ≤ n → (¬ Contains taken n)
    → new ≡ names ++ record { rigid = k; number = n } ∷ [] → AreNamedFirst wanted taken names end i → AreNamedFirst wanted taken new (n + 1) (i + 1)
named_next wanted taken names new end n k i e l free is first = subst (λ ns. AreNamedFirst wanted taken ns (n + 1) (i + 1)) (sym is) (record {
  rise = rising_further 0 end n k names first.rise first.before (omega arith) l;
  before = before_further end (n + 1) n k names first.before (omega arith) (omega arith);
  named = λ j m h d. named_at j m d (cases_lt j i) h;
  free = λ name c. free_at name (Contains-push_cases names one name c);
})
  where
    one : NewName
    one = record { rigid = k; number = n }

    named_at : (j m : ℕ) → slice_get wanted j ≡ Some m → (j < i) ⊎ (i ≤ j) → j < i + 1 → IsNamed (names ++ one ∷ []) m
    named_at j m d (inl h) g =
        let b = first.named j m h d in
        record { name = b.name; listed = Contains-append_left names (one ∷ []) b.name b.listed; same = b.same }
    named_at j m d (inr h) g =
        let same : j ≡ i = omega (arith, h, g) in
        let f : Some k ≡ Some m = sym e ∙ (ap (slice_get wanted) (sym same) ∙ d) in
        record { name = one; listed = Contains-push names one; same = cc }

    free_at : (name : NewName) → Contains names name ⊎ (one ≡ name) → ¬ Contains taken name.number
    free_at name (inl c) = first.free name c
    free_at name (inr c) = subst (λ (x : NewName). ¬ Contains taken x.number) c free

pub named_all : (wanted taken : List ℕ) (names : List NewName) (end n : ℕ) → length wanted ≤ n → AreNamedFirst wanted taken names end n → AreNamed wanted taken names
named_all wanted taken names end n h first = record {
  rise = first.rise;
  named = λ k c.
      let l = c.1 in
      first.named c.0 k (omega (arith, l, h)) (slice_get-get_or wanted c.0 k l ∙ ap Some c.2);
  free = first.free;
}

-- the rigid name of a number, or the attacker's name
abbrev rigid_of : List NewName → ℕ → Tree
rigid_of [] n = leaf (public (At n))
rigid_of (name ∷ names) n = cond (nat_eq name.number n) (leaf (rigid name.rigid)) (rigid_of names n)

in_rest_of : (name one : NewName) (names : List NewName) → Contains (name ∷ names) one → (name ≡ one) ⊎ Contains names one
in_rest_of name one names (zero, l, e) = inl e
in_rest_of name one names (suc k, l, e) = inr (k, omega (arith, l), e)

named_rest : (name : NewName) (k : ℕ) (names : List NewName) → nat_eq name.rigid k ≡ false → IsNamed (name ∷ names) k → IsNamed names k
named_rest name k names b h =
    elim (in_rest_of name h.name names h.listed) [
      | inl e ↦ (let s : name.rigid ≡ k = ap (λ (x : NewName). x.rigid) e ∙ h.same in let c : true ≡ false = sym (eq-eqb name.rigid k s) ∙ b in cc)
      | inr c ↦ record { name = h.name; listed = c; same = h.same }
    ]

later_number : (from k : ℕ) (names : List NewName) → AreRising from names → IsNamed names k → from ≤ number_of names k
later_number from k [] r h = absurd (let l = h.listed.1 in omega (arith, l))
later_number from k (name ∷ names) r h =
    elim (cases_Bool (nat_eq name.rigid k)) [
      | inl b ↦ rw b r.0
      | inr b ↦ rw b (let l = later_number (suc name.number) k names r.1 (named_rest name k names b h) in let m = r.0 in omega (arith, l, m))
    ]

not_same : (m n : ℕ) → m < n → nat_eq m n ≡ false
not_same m n h = elim (cases_Bool (nat_eq m n)) [
  | inl b ↦ absurd (let e = eqb-true m n b in omega (arith, e, h))
  | inr b ↦ b
]

told_back : (from k : ℕ) (names : List NewName) → AreRising from names → IsNamed names k → rigid_of names (number_of names k) ≡ leaf (rigid k)
told_back from k [] r h = absurd (let l = h.listed.1 in omega (arith, l))
told_back from k (name ∷ names) r h =
    elim (cases_Bool (nat_eq name.rigid k)) [
      | inl b ↦ rw b (rw (eq-eqb name.number name.number refl) (ap (λ n. leaf (rigid n)) (eqb-true name.rigid k b)))
      | inr b ↦
          let rest = named_rest name k names b h in
          let l = later_number (suc name.number) k names r.1 rest in
          rw b (rw (not_same name.number (number_of names k) (omega (arith, l))) (told_back (suc name.number) k names r.1 rest))
    ]

not_named : (n : ℕ) (names : List NewName) → ((name : NewName) → Contains names name → name.number ≡ n → ⊥) → rigid_of names n ≡ leaf (public (At n))
not_named n [] h = refl
not_named n (name ∷ names) h =
    elim (cases_Bool (nat_eq name.number n)) [
      | inl b ↦ absurd (h name (0, omega arith, refl) (eqb-true name.number n b))
      | inr b ↦ rw b (not_named n names (λ one c. h one (suc c.0, (let l = c.1 in omega (arith, l)), c.2)))
    ]

pub are_new :
    (old one_added added : Numbers) (one other : Tree) (names : List NewName) → Adds old one_added one → Adds one_added added other
    → AreNamed added.rigid.items added.own.items names → AreNew (number_of names) one other
are_new old one_added added one other names first second named = record {
  back = rigid_of names;
  rigid_names = λ k h. told_back 0 k names named.rise (named.named k (rigid_there k h));
  attacker_names = λ k h. not_named k names (λ name c e. named.free name c (subst (Contains added.own.items) (sym e) (own_there k h)));
}
  where
    rigid_there : (k : ℕ) → StandsIn (rigid k) one ⊎ StandsIn (rigid k) other → Contains added.rigid.items k
    rigid_there k (inl s) = second.rigid_kept k (first.rigid_there k s)
    rigid_there k (inr s) = second.rigid_there k s

    own_there : (k : ℕ) → StandsIn (public (At k)) one ⊎ StandsIn (public (At k)) other → Contains added.own.items k
    own_there k (inl s) = second.own_kept k (first.own_there k s)
    own_there k (inr s) = second.own_there k s

-- the number of a rigid name is looked up one by one
drop_at : (names : List NewName) (i : ℕ) (name : NewName) → slice_get names i ≡ Some name → drop i names ≡ name ∷ drop (i + 1) names
drop_at names i name e = drop_more names i name (slice_get_within names i name e) ∙ ap (λ x. x ∷ drop (i + 1) names) (get_or_from_slice_get names i name name e)

pub number_here : (names : List NewName) (i k : ℕ) (name : NewName) → slice_get names i ≡ Some name → number_of (drop i names) k ≡ number_of names k → name.rigid ≡ k → number_of names k ≡ name.number
number_here names i k name e before same =
    sym before ∙ (ap (λ ns. number_of ns k) (drop_at names i name e) ∙ (rw (eq-eqb name.rigid k same) refl))

pub number_later :
    (names : List NewName) (i k : ℕ) (name : NewName) → slice_get names i ≡ Some name → number_of (drop i names) k ≡ number_of names k → (name.rigid ≡ k → ⊥)
    → number_of (drop (i + 1) names) k ≡ number_of names k
number_later names i k name e before other =
    elim (cases_Bool (nat_eq name.rigid k)) [
      | inl b ↦ absurd (other (eqb-true name.rigid k b))
      | inr b ↦
          let d : number_of (drop i names) k ≡ number_of (drop (i + 1) names) k = ap (λ ns. number_of ns k) (drop_at names i name e) ∙ (rw b refl) in
          sym d ∙ before
    ]

pub number_none : (names : List NewName) (i k : ℕ) → length names ≤ i → number_of (drop i names) k ≡ number_of names k → 0 ≡ number_of names k
number_none names i k h before = ap (λ ns. number_of ns k) (sym (drop_all i names h)) ∙ before
