-- Rules have at most one first fault.
use Rattle.std.proofs.Common.{◌≡◌, ◌⊎◌, ℕ, zero, suc, ◌-◌, ◌<◌, List, [], ◌∷◌, Some, take, refl, sym, ◌∙◌, ap, subst, inl, inr, arith}
use Rattle.std.specs.Prelude.{slice_get, Contains}
use Rattle.std.proofs.lemmas.Option.{slice_get_within}
use Rattle.dps_terms.specs.Tree.{Tree}
use Rattle.dps_signature.specs.Signature.{Shape}
use Rattle.dps_theory.specs.Theory.{Rule, Agree}
use Rattle.dps_theory.specs.Checking.{numbered_rule, HasForm, IsFault, AreAcceptedBefore, IsFirstFault, IsFirstOverlap}
use Rattle.dps_theory.specs.LawsOfFaults.{NoRulesHaveTwoFaults}
use Rattle.dps_theory.specs.declared.form.FormFault.{FormFault}
use Rattle.dps_theory.specs.declared.form.FormFault.TheVariants.{RootNotDestructor, ArgumentNotConstructor, RightNotConstructor, NotSubterm}
use Rattle.dps_theory.proofs.Faults.{listed_there, overlapping_disagree, faulty_rule}

get_take : (xs : List Rule) (n i : ℕ) (x : Rule) → i < n → slice_get xs i ≡ Some x → slice_get (take n xs) i ≡ Some x
get_take [] n i x l e = let h : slice_get [] i ≡ Some x = e in absurd (omega (arith, slice_get_within [] i x h))
get_take (y ∷ xs) zero i x l e = absurd (omega (arith, l))
get_take (y ∷ xs) (suc n) zero x l e = e
get_take (y ∷ xs) (suc n) (suc i) x l e = get_take xs n i x (omega (arith, l)) e

three : (a b : ℕ) → (a < b) ⊎ ((a ≡ b) ⊎ (b < a))
three zero zero = inr (inl refl)
three zero (suc b) = inl (omega arith)
three (suc a) zero = inr (inr (omega arith))
three (suc a) (suc b) = elim (three a b) [
  | inl h ↦ inl (omega (arith, h))
  | inr r ↦ elim r [ inl h ↦ inr (inl (ap suc h)) | inr h ↦ inr (inr (omega (arith, h))) ]
]

same_fault : (shapes : List Shape) (r : Rule) (a b : FormFault) → IsFault shapes r a → IsFault shapes r b → a ≡ b
same_fault shapes r RootNotDestructor RootNotDestructor f g = refl
same_fault shapes r RootNotDestructor ArgumentNotConstructor f g = absurd (f g.0)
same_fault shapes r RootNotDestructor RightNotConstructor f g = absurd (f g.0)
same_fault shapes r RootNotDestructor NotSubterm f g = absurd (f g.0)
same_fault shapes r ArgumentNotConstructor RootNotDestructor f g = absurd (g f.0)
same_fault shapes r ArgumentNotConstructor ArgumentNotConstructor f g = refl
same_fault shapes r ArgumentNotConstructor RightNotConstructor f g = absurd (f.1 g.1)
same_fault shapes r ArgumentNotConstructor NotSubterm f g = absurd (f.1 g.1)
same_fault shapes r RightNotConstructor RootNotDestructor f g = absurd (g f.0)
same_fault shapes r RightNotConstructor ArgumentNotConstructor f g = absurd (g.1 f.1)
same_fault shapes r RightNotConstructor RightNotConstructor f g = refl
same_fault shapes r RightNotConstructor NotSubterm f g = absurd (f.2 g.2)
same_fault shapes r NotSubterm RootNotDestructor f g = absurd (g f.0)
same_fault shapes r NotSubterm ArgumentNotConstructor f g = absurd (g.1 f.1)
same_fault shapes r NotSubterm RightNotConstructor f g = absurd (g.2 f.2)
same_fault shapes r NotSubterm NotSubterm f g = refl

formed : (shapes : List Shape) (r : Rule) (a : FormFault) → HasForm shapes r → IsFault shapes r a → ⊥
formed shapes r RootNotDestructor h f = f h.root
formed shapes r ArgumentNotConstructor h f = f.1 h.arguments
formed shapes r RightNotConstructor h f = f.2 h.constructed
formed shapes r NotSubterm h f = f.3 h.bounded

module _ (shapes : List Shape) (rules : List Rule) where
  -- a rule before that of a number
  before_it : (m n : ℕ) (r : Rule) → m < n → numbered_rule rules m ≡ Some r → Contains (take (n - 1) rules) r
  before_it zero n r l e = cc
  before_it (suc i) n r l e = listed_there (take (n - 1) rules) i r (get_take rules (n - 1) i r (omega (arith, l)) e)

  same_rule : (m n : ℕ) (r q : Rule) → m ≡ n → numbered_rule rules m ≡ Some r → numbered_rule rules n ≡ Some q → r ≡ q
  same_rule m n r q s e f = let h : Some r ≡ Some q = sym e ∙ (ap (numbered_rule rules) s ∙ f) in cc

  -- no fault stands before rules that are accepted
  form_before : (m n : ℕ) (fault : FormFault) → IsFirstFault shapes rules m fault → m < n → AreAcceptedBefore shapes rules n → ⊥
  form_before m n fault f l a = faulty_rule shapes (take (n - 1) rules) f.rule fault (before_it m n f.rule l f.is) f.faulty a

  overlap_before : (k m n : ℕ) (u : List (ℕ × Tree)) → IsFirstOverlap shapes rules k m u → m < n → AreAcceptedBefore shapes rules n → ⊥
  overlap_before k m n u f l a =
      overlapping_disagree f.earlier f.rule u f.overlap
      (a.agreeing f.earlier f.rule (before_it k n f.earlier (omega (arith, l, f.in_order)) f.is_earlier) (before_it m n f.rule l f.is))

  one_form : (m n : ℕ) (a b : FormFault) → IsFirstFault shapes rules m a → IsFirstFault shapes rules n b → (m ≡ n) × (a ≡ b)
  one_form m n a b f g = elim (three m n) [
    | inl l ↦ absurd (form_before m n a f l g.before)
    | inr r ↦ elim r [
      | inl e ↦ (e, same_fault shapes f.rule a b f.faulty (subst (λ r. IsFault shapes r b) (sym (same_rule m n f.rule g.rule e f.is g.is)) g.faulty))
      | inr l ↦ absurd (form_before n m b g l f.before)
    ]
  ]

  not_both : (n k m : ℕ) (a : FormFault) (u : List (ℕ × Tree)) → IsFirstFault shapes rules n a → IsFirstOverlap shapes rules k m u → ⊥
  not_both n k m a u f o = elim (three n m) [
    | inl l ↦ form_before n m a f l o.before
    | inr r ↦ elim r [
      | inl e ↦ formed shapes o.rule a o.form (subst (λ r. IsFault shapes r a) (same_rule n m f.rule o.rule e f.is o.is) f.faulty)
      | inr l ↦ overlap_before k m n u o l f.before
    ]
  ]

  -- two rules that overlap with one rule
  not_earlier : (k m l n : ℕ) (u w : List (ℕ × Tree)) → IsFirstOverlap shapes rules k m u → IsFirstOverlap shapes rules l n w → m ≡ n → k < l → ⊥
  not_earlier k m l n u w f g e less =
      overlapping_disagree f.earlier f.rule u f.overlap (subst (λ r. Agree f.earlier r) (sym (same_rule m n f.rule g.rule e f.is g.is)) (g.agrees k f.earlier less f.is_earlier))

  one_overlap : (k m l n : ℕ) (u w : List (ℕ × Tree)) → IsFirstOverlap shapes rules k m u → IsFirstOverlap shapes rules l n w → (k ≡ l) × (m ≡ n)
  one_overlap k m l n u w f g = elim (three m n) [
    | inl l ↦ absurd (overlap_before k m n u f l g.before)
    | inr r ↦ elim r [
      | inl e ↦ elim (three k l) [
        | inl less ↦ absurd (not_earlier k m l n u w f g e less)
        | inr s ↦ elim s [
          | inl d ↦ (d, e)
          | inr less ↦ absurd (not_earlier l n k m w u g f (sym e) less)
        ]
      ]
      | inr h ↦ absurd (overlap_before l n m w g h f.before)
    ]
  ]

pub one_fault : NoRulesHaveTwoFaults
one_fault = record {
  forms = one_form;
  form_or_overlap = λ shapes rules n k m a u. not_both shapes rules n k m a u;
  overlaps = one_overlap;
}
