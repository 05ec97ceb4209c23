-- Rules make an accepted theory, or have a first fault.
use Rattle.std.proofs.Common.{◌≡◌, ℕ, zero, suc, ◌+◌, ◌<◌, ◌≤◌, List, [], ◌∷◌, length, nat_eq, true, false, Option, Some, None, refl, sym, ◌∙◌, ap, arith, ◌⊎◌, inl, inr, subst, add-one}
use Rattle.std.specs.Prelude.{slice_get}
use Rattle.std.proofs.lemmas.Bool.{cases_Bool, cases_lt, eqb-true, eq-eqb}
use Rattle.dps_terms.specs.declared.Sym.{Sym}
use Rattle.dps_signature.specs.declared.SymKind.{SymKind}
use Rattle.dps_signature.specs.declared.SymKind.TheVariants.{Constructor, Destructor}
use Rattle.dps_terms.specs.Tree.{Leaf, public, private, var, ax, entry, rigid, Tree, Trees, leaf, app, none, more, count, IsSubterm, IsAmong, IsStrictSubterm, itself}
use Rattle.dps_terms.specs.Tree.{below, in_first, in_rest, strictly}
use Rattle.dps_terms.specs.Replace.{substitute}
use Rattle.dps_terms.specs.Bindings.{image}
use Rattle.dps_signature.specs.Signature.{Shape, HasShape}
use Rattle.dps_terms.specs.Same.{same, same-true, same-self}
use Rattle.dps_terms.specs.Kinds.{IsBuiltOf, AreBuiltOf, AnyLeaf, AnySymbol, IsNoVariable, IsClosed}
use Rattle.dps_signature.specs.Kinds.{IsConstructorTerm}
use Rattle.dps_unify.specs.Renaming.{raised}
use Rattle.dps_unify.proofs.Deciding.{unifiers_are_decided}
use Rattle.dps_theory.specs.Theory.{Rule, Agree, HasDestructorRoot, HasConstructorArguments, IsBounded}
use Rattle.dps_theory.specs.Overlaps.{room, apart, overlap_levels, IsOverlap}
use Rattle.dps_theory.specs.Checking.{HasForm, IsFault, HaveFault, by_itself, by_overlap}
use Rattle.dps_theory.specs.Judging.{AreJudged, AgreeBefore, IsOverlapBefore}
use Rattle.dps_theory.specs.declared.form.FormFault.{FormFault}
use Rattle.dps_theory.specs.declared.form.FormFault.TheVariants.{RootNotDestructor, ArgumentNotConstructor, RightNotConstructor, NotSubterm}
use Rattle.dps_theory.specs.RulesDecided.{RulesAreDecided}
use Rattle.dps_theory.proofs.Overlapping.{agree_never, agree_same, overlap_found}
use Rattle.dps_theory.proofs.Accepting.{judged_all, judged_next, first_fault, refused_overlap, one_there, same_element}

-- shapes of symbols
same_kind : (k l : SymKind) → (k ≡ l) ⊎ (k ≡ l → ⊥)
same_kind Constructor Constructor = inl refl
same_kind Constructor Destructor = inr (λ e. cc)
same_kind Destructor Constructor = inr (λ e. cc)
same_kind Destructor Destructor = inl refl

shape_is : (o : Option Shape) (kind : SymKind) (n : ℕ) → (o ≡ Some (record { kind = kind; arity = n })) ⊎ (o ≡ Some (record { kind = kind; arity = n }) → ⊥)
shape_is None kind n = inr (λ e. cc)
shape_is (Some s) kind n =
    elim (same_kind s.kind kind) [
      | inl k ↦ elim (cases_Bool (nat_eq s.arity n)) [
        | inl a ↦ let m : s.arity ≡ n = eqb-true s.arity n a in inl (λ i. Some (record { kind = k i; arity = m i }))
        | inr a ↦ inr (λ e.
            let t : Shape = record { kind = kind; arity = n } in
            let d : s ≡ t = cc in
            let o : true ≡ false = sym (eq-eqb s.arity n (ap (λ q. q.arity) d)) ∙ a in cc)
      ]
      | inr other ↦ inr (λ e.
          let t : Shape = record { kind = kind; arity = n } in
          let d : s ≡ t = cc in other (ap (λ q. q.kind) d))
    ]

pub has_shape : (shapes : List Shape) (kind : SymKind) (f : Sym) (n : ℕ) → HasShape shapes kind f n ⊎ ¬ HasShape shapes kind f n
has_shape shapes kind f n = shape_is (slice_get shapes f.number) kind n

-- what a tree is built of
module _ (L : Leaf → Type 0) (S : Sym → ℕ → Type 0) (leaves : (x : Leaf) → L x ⊎ (L x → ⊥)) (symbols : (f : Sym) (n : ℕ) → S f n ⊎ (S f n → ⊥)) where
  mutual
    is_built : (t : Tree) → IsBuiltOf L S t ⊎ (IsBuiltOf L S t → ⊥)
    is_built (leaf x) = leaves x
    is_built (app f ts) =
        elim (symbols f (count ts)) [
          | inl s ↦ elim (are_built ts) [ inl b ↦ inl (s, b) | inr other ↦ inr (λ h. other h.1) ]
          | inr other ↦ inr (λ h. other h.0)
        ]

    are_built : (ts : Trees) → AreBuiltOf L S ts ⊎ (AreBuiltOf L S ts → ⊥)
    are_built none = inl tt
    are_built (more t ts) =
        elim (is_built t) [
          | inl s ↦ elim (are_built ts) [ inl b ↦ inl (s, b) | inr other ↦ inr (λ h. other h.1) ]
          | inr other ↦ inr (λ h. other h.0)
        ]

no_variable : (x : Leaf) → IsNoVariable x ⊎ (IsNoVariable x → ⊥)
no_variable (var n) = inr (λ h. h)
no_variable (public n) = inl tt
no_variable (private n) = inl tt
no_variable (ax n) = inl tt
no_variable (entry n) = inl tt
no_variable (rigid n) = inl tt

is_closed : (t : Tree) → IsClosed t ⊎ (IsClosed t → ⊥)
is_closed = is_built IsNoVariable AnySymbol no_variable (λ f n. inl tt)

module _ (shapes : List Shape) where
  constructors : (t : Tree) → IsConstructorTerm shapes t ⊎ (IsConstructorTerm shapes t → ⊥)
  constructors = is_built AnyLeaf (HasShape shapes Constructor) (λ x. inl tt) (has_shape shapes Constructor)

  root : (t : Tree) → HasDestructorRoot shapes t ⊎ (HasDestructorRoot shapes t → ⊥)
  root (leaf x) = inr (λ h. h)
  root (app f ts) = has_shape shapes Destructor f (count ts)

  arguments_built : (t : Tree) → HasConstructorArguments shapes t ⊎ (HasConstructorArguments shapes t → ⊥)
  arguments_built (leaf x) = inl tt
  arguments_built (app f ts) = are_built AnyLeaf (HasShape shapes Constructor) (λ x. inl tt) (has_shape shapes Constructor) ts

-- subterms
pub equal_or : (t u : Tree) → (t ≡ u) ⊎ (t ≡ u → ⊥)
equal_or t u =
    elim (cases_Bool (same t u)) [
      | inl e ↦ inl (same-true t u e)
      | inr e ↦ inr (λ d. let o : true ≡ false = sym (same-self t) ∙ ap (same t) d ∙ e in cc)
    ]

among_none : (u : Tree) → IsAmong u none → ⊥
among_none u k = elim k [ ]

among_cases : (u t : Tree) (ts : Trees) → IsAmong u (more t ts) → IsSubterm u t ⊎ IsAmong u ts
among_cases u t ts (in_first k) = inl k
among_cases u t ts (in_rest k) = inr k

in_leaf : (u : Tree) (x : Leaf) → IsSubterm u (leaf x) → u ≡ leaf x
in_leaf u x itself = refl

app_cases : (u : Tree) (g : Sym) (us : Trees) → IsSubterm u (app g us) → (u ≡ app g us) ⊎ IsAmong u us
app_cases u g us itself = inl refl
app_cases u g us (below m) = inr m

mutual
  subterm : (u t : Tree) → IsSubterm u t ⊎ (IsSubterm u t → ⊥)
  subterm u (leaf x) =
      elim (equal_or u (leaf x)) [
        | inl e ↦ inl (subst (IsSubterm u) e itself)
        | inr other ↦ inr (λ k. other (in_leaf u x k))
      ]
  subterm u (app f ts) =
      elim (equal_or u (app f ts)) [
        | inl e ↦ inl (subst (IsSubterm u) e itself)
        | inr other ↦ elim (among u ts) [
          | inl k ↦ inl (below k)
          | inr never ↦ inr (λ k. elim (app_cases u f ts k) [ inl e ↦ other e | inr m ↦ never m ])
        ]
      ]

  among : (u : Tree) (ts : Trees) → IsAmong u ts ⊎ (IsAmong u ts → ⊥)
  among u none = inr (among_none u)
  among u (more t ts) =
      elim (subterm u t) [
        | inl k ↦ inl (in_first k)
        | inr other ↦ elim (among u ts) [
          | inl k ↦ inl (in_rest k)
          | inr never ↦ inr (λ k. elim (among_cases u t ts k) [ inl m ↦ other m | inr m ↦ never m ])
        ]
      ]

not_strict_leaf : (u : Tree) (x : Leaf) → IsStrictSubterm u (leaf x) → ⊥
not_strict_leaf u x k = elim k [ ]

strict_among : (u : Tree) (f : Sym) (ts : Trees) → IsStrictSubterm u (app f ts) → IsAmong u ts
strict_among u f ts (strictly k) = k

strict : (u t : Tree) → IsStrictSubterm u t ⊎ (IsStrictSubterm u t → ⊥)
strict u (leaf x) = inr (not_strict_leaf u x)
strict u (app f ts) =
    elim (among u ts) [ inl k ↦ inl (strictly k) | inr other ↦ inr (λ k. other (strict_among u f ts k)) ]

bounded : (r : Rule) → IsBounded r ⊎ (IsBounded r → ⊥)
bounded r =
    elim (strict r.right r.left) [
      | inl s ↦ inl (inl s)
      | inr other ↦ elim (is_closed r.right) [
        | inl c ↦ inl (inr c)
        | inr never ↦ inr (λ b. elim b [ inl s ↦ other s | inr c ↦ never c ])
      ]
    ]

-- two rules
overlap_or : (r q : Rule) → IsBounded r → Agree r q ⊎ ((u : List (ℕ × Tree)) × IsOverlap r q u)
overlap_or r q b =
    elim (unifiers_are_decided (overlap_levels r q) ((r.left, apart r q) ∷ [])) [
      | inr never ↦ inl (agree_never r q never)
      | inl m ↦ elim (equal_or (substitute (image m.0) r.right) (substitute (image m.0) (raised (room r) q.right))) [
        | inl e ↦ inl (agree_same r q (overlap_levels r q) m.0 m.1 b e)
        | inr other ↦ inr (m.0, overlap_found r q m.0 m.1 other)
      ]
    ]

module _ (shapes : List Shape) (rules : List Rule) where
  module _ (place : ℕ) (h : AreJudged shapes rules place) (q : Rule) (at : slice_get rules place ≡ Some q) where
    refused : (fault : FormFault) → IsFault shapes q fault → HaveFault shapes rules
    refused fault f = by_itself (place + 1) fault (first_fault shapes rules place h q at fault f)

    form : HasForm shapes q ⊎ HaveFault shapes rules
    form =
        elim (root shapes q.left) [
          | inr a ↦ inr (refused RootNotDestructor a)
          | inl a ↦ elim (arguments_built shapes q.left) [
            | inr b ↦ inr (refused ArgumentNotConstructor (a, b))
            | inl b ↦ elim (constructors shapes q.right) [
              | inr c ↦ inr (refused RightNotConstructor (a, b, c))
              | inl c ↦ elim (bounded q) [
                | inr d ↦ inr (refused NotSubterm (a, b, c, d))
                | inl d ↦ inl (record { root = a; arguments = b; constructed = c; bounded = d })
              ]
            ]
          ]
        ]

    before : (k : ℕ) → k ≤ place → place < length rules → AgreeBefore rules k q ⊎ ((e : ℕ) × (u : List (ℕ × Tree)) × IsOverlapBefore rules place e q u)
    before zero l inside = inl (λ j r m e. absurd (omega arith))
    before (suc k) l inside =
        elim (before k (omega arith) inside) [
          | inr o ↦ inr o
          | inl agree ↦
              let w = one_there rules k (omega arith) in
              elim (overlap_or w.0 q (h.forms k w.0 (omega arith) w.1).bounded) [
                | inr o ↦ inr (k, o.0, record { before = omega arith; agrees = agree; rule = w.0; is = w.1; overlap = o.1 })
                | inl one ↦ inl (λ j r m e.
                    elim (cases_lt j k) [
                      | inl n ↦ agree j r n e
                      | inr n ↦
                          let d : j ≡ k = omega arith in
                          subst (λ s. Agree s q) (same_element rules k w.0 r w.1 (ap (slice_get rules) (sym d) ∙ e)) one
                    ])
              ]
        ]

    next : place < length rules → AreJudged shapes rules (place + 1) ⊎ HaveFault shapes rules
    next inside =
        elim form [
          | inr fault ↦ inr fault
          | inl f ↦ elim (before place (omega arith) inside) [
            | inl agree ↦ inl (judged_next shapes rules place h q at f agree)
            | inr o ↦ inr (by_overlap (o.0 + 1) (place + 1) o.1 (refused_overlap shapes rules place h q at o.0 o.1 f o.2))
          ]
        ]

  none_judged : AreJudged shapes rules zero
  none_judged = record { forms = λ k r l e. absurd (omega arith); agreeing = λ j k r q l m e d. absurd (omega arith) }

  judged : (n : ℕ) → n ≤ length rules → AreJudged shapes rules n ⊎ HaveFault shapes rules
  judged zero l = inl none_judged
  judged (suc n) l =
      elim (judged n (omega arith)) [
        | inr fault ↦ inr fault
        | inl h ↦
            let w = one_there rules n (omega arith) in
            elim (next n h w.0 w.1 (omega arith)) [
              | inl k ↦ inl (subst (AreJudged shapes rules) (add-one n) k)
              | inr fault ↦ inr fault
            ]
      ]

pub rules_are_decided : RulesAreDecided
rules_are_decided = λ shapes rules.
    elim (judged shapes rules (length rules) (omega arith)) [
      | inl h ↦ inl (judged_all shapes rules (length rules) h (omega arith))
      | inr fault ↦ inr fault
    ]
