-- From rules that were judged one by one to an accepted theory, or to the first fault.
use Rattle.std.proofs.Common.{◌≡◌, ℕ, zero, suc, ◌+◌, ◌-◌, ◌<◌, ◌≤◌, List, [], ◌∷◌, ◌++◌, length, drop, take, get_or, true, refl, sym, ◌∙◌, ap, arith, inl, inr, subst}
use Rattle.std.proofs.Common.{Some, add-one, drop-cons, map, slice_set}
use Rattle.std.specs.Prelude.{slice_get, Contains, All}
use Rattle.std.proofs.lemmas.Bool.{cases_lt, eq-eqb}
use Rattle.std.proofs.lemmas.List.{take_all}
use Rattle.std.proofs.lemmas.Option.{none-some, slice_get_within}
use Rattle.dps_terms.specs.declared.Sym.{Sym}
use Rattle.dps_terms.specs.declared.TermView.TheVariants.{App}
use Rattle.dps_terms.specs.Tree.{Tree, leaf, app}
use Rattle.dps_terms.specs.Views.{view_of}
use Rattle.dps_signature.specs.Signature.{Shape}
use Rattle.dps_theory.specs.Theory.{Rule, Agree, IsAccepted, HasDestructorRoot}
use Rattle.dps_theory.specs.Overlaps.{IsOverlap}
use Rattle.dps_theory.specs.Index.{has_root, listed, HasRootBelow}
use Rattle.dps_theory.specs.Checking.{numbered_rule, HasForm, IsFault, AreAcceptedBefore, IsFirstFault, IsFirstOverlap}
use Rattle.dps_theory.specs.Judging.{AreJudged, AgreeBefore, IsOverlapBefore}
use Rattle.dps_theory.specs.declared.form.FormFault.{FormFault}
use Rattle.dps_terms.proofs.Arguments.{leaf_is_no_app}
use Rattle.dps_theory.proofs.Agreeing.{agrees_itself}
use Rattle.dps_theory.proofs.Walking.{slice_get-take, Walk, walk_within, walk_agrees, walk_on, walk_end}

-- what was taken of a list
length_taken : {X : Type 0} (xs : List X) (n : ℕ) → length (take n xs) ≤ n
length_taken xs zero = omega arith
length_taken [] (suc n) = omega arith
length_taken (x ∷ xs) (suc n) = omega (arith, length_taken xs n)

taken_le : {X : Type 0} (xs : List X) (n : ℕ) → length (take n xs) ≤ length xs
taken_le xs zero = omega arith
taken_le [] (suc n) = omega arith
taken_le (x ∷ xs) (suc n) = omega (arith, taken_le xs n)

taken_place : {X : Type 0} (xs : List X) (n k : ℕ) (x : X) → slice_get (take n xs) k ≡ Some x → k < n
taken_place xs n k x e = omega (arith, slice_get_within (take n xs) k x e, length_taken xs n)

pub contained : {X : Type 0} (xs : List X) (x : X) → Contains xs x → (k : ℕ) × (slice_get xs k ≡ Some x)
contained [] x (k, below, at) = absurd (omega arith)
contained (y ∷ ys) x (zero, below, at) = (0, ap (λ o. Some o) at)
contained (y ∷ ys) x (suc k, below, at) = let h = contained ys x (k, omega arith, at) in (suc h.0, h.1)

agree_sym : (r q : Rule) → Agree r q → Agree q r
agree_sym r q h y z e = sym (h z y (sym e))

module _ (shapes : List Shape) (rules : List Rule) where
  -- the rules that were judged, as an accepted theory
  module _ (place : ℕ) (h : AreJudged shapes rules place) where
    form_of : (r : Rule) → Contains (take place rules) r → HasForm shapes r
    form_of r k =
        let c = contained (take place rules) r k in
        let below = taken_place rules place c.0 r c.1 in h.forms c.0 r below (sym (slice_get-take rules place c.0 below) ∙ c.1)

    agree_of : (r q : Rule) → Contains (take place rules) r → Contains (take place rules) q → Agree r q
    agree_of r q k l =
        let c = contained (take place rules) r k in
        let d = contained (take place rules) q l in
        let below_r = taken_place rules place c.0 r c.1 in
        let below_q = taken_place rules place d.0 q d.1 in
        let at_r = sym (slice_get-take rules place c.0 below_r) ∙ c.1 in
        let at_q = sym (slice_get-take rules place d.0 below_q) ∙ d.1 in
        elim (cases_lt c.0 d.0) [
          | inl o ↦ h.agreeing c.0 d.0 r q o below_q at_r at_q
          | inr o ↦ elim (cases_lt d.0 c.0) [
            | inl p ↦ agree_sym q r (h.agreeing d.0 c.0 q r p below_r at_q at_r)
            | inr p ↦
                let same_place : c.0 ≡ d.0 = omega arith in
                let m : Some r ≡ Some q = sym at_r ∙ ap (slice_get rules) same_place ∙ at_q in
                let same : r ≡ q = cc in
                subst (Agree r) same (agrees_itself r (h.forms c.0 r below_r at_r).bounded)
          ]
        ]

    pub judged_are_accepted : IsAccepted (record { shapes = shapes; rules = take place rules })
    judged_are_accepted = record {
      root = λ r k. (form_of r k).root;
      arguments = λ r k. (form_of r k).arguments;
      constructed = λ r k. (form_of r k).constructed;
      bounded = λ r k. (form_of r k).bounded;
      agreeing = agree_of;
    }

    accepted_before : (n : ℕ) → n ≡ place + 1 → AreAcceptedBefore shapes rules n
    accepted_before n e =
        let d : place ≡ n - 1 = omega arith in subst (λ k. IsAccepted (record { shapes = shapes; rules = take k rules })) d judged_are_accepted

    numbered : (n k : ℕ) (r : Rule) → n ≡ k + 1 → slice_get rules k ≡ Some r → numbered_rule rules n ≡ Some r
    numbered n k r e d = ap (numbered_rule rules) (e ∙ add-one k) ∙ d

    -- the rules before, walked through by root
    forms_taken : (k : ℕ) (r : Rule) → slice_get (take place rules) k ≡ Some r → HasDestructorRoot shapes r.left
    forms_taken k r e =
        let below = taken_place rules place k r e in (h.forms k r below (sym (slice_get-take rules place k below) ∙ e)).root

    module _ (q : Rule) (earlier : List ℕ) (i : ℕ) where
      module _ (within : i < length earlier) (walk : Walk (take place rules) q (drop i earlier)) where
        here : Walk (take place rules) q (get_or earlier i 0 ∷ drop (suc i) earlier)
        here = subst (Walk (take place rules) q) (drop-cons earlier i 0 within) walk

        pub before_within : (get_or earlier i 0 < place) × (get_or earlier i 0 < length rules)
        before_within =
            let l = walk_within shapes (take place rules) q forms_taken (get_or earlier i 0) (drop (suc i) earlier) here in
            (omega (arith, length_taken rules place), omega (arith, taken_le rules place))

        pub before_agrees : AgreeBefore rules (get_or earlier i 0) q
        before_agrees k r l e =
            let inside = before_within.0 in
            walk_agrees shapes (take place rules) q forms_taken (get_or earlier i 0) (drop (suc i) earlier) here k r l (slice_get-take rules place k (omega arith) ∙ e)

        pub before_on : ((r : Rule) → slice_get rules (get_or earlier i 0) ≡ Some r → Agree r q) → Walk (take place rules) q (drop (i + 1) earlier)
        before_on agree =
            subst (λ k. Walk (take place rules) q (drop k earlier)) (sym (add-one i))
            (walk_on shapes (take place rules) q forms_taken (get_or earlier i 0) (drop (suc i) earlier) here
            (λ r e. agree r (sym (slice_get-take rules place (get_or earlier i 0) before_within.0) ∙ e)))

      pub before_end : Walk (take place rules) q (drop i earlier) → length earlier ≤ i → AgreeBefore rules place q
      before_end walk all k r l e =
          walk_end shapes (take place rules) q forms_taken (subst (Walk (take place rules) q) (nothing_left earlier i all) walk) k r (slice_get-take rules place k l ∙ e)
        where
          nothing_left : (xs : List ℕ) (n : ℕ) → length xs ≤ n → drop n xs ≡ []
          nothing_left [] zero m = refl
          nothing_left [] (suc n) m = refl
          nothing_left (x ∷ xs) zero m = absurd (omega arith)
          nothing_left (x ∷ xs) (suc n) m = nothing_left xs n (omega arith)

    -- the next rule
    module _ (q : Rule) (at : slice_get rules place ≡ Some q) where
      pub judged_next : HasForm shapes q → AgreeBefore rules place q → AreJudged shapes rules (place + 1)
      judged_next form agrees = record {
        forms = λ k r l e.
            elim (cases_lt k place) [
              | inl o ↦ h.forms k r o e
              | inr o ↦ subst (HasForm shapes) (same_rule k r (omega arith) e) form
            ];
        agreeing = λ j k r s l m e d.
            elim (cases_lt k place) [
              | inl o ↦ h.agreeing j k r s l o e d
              | inr o ↦ let c : k ≡ place = omega arith in subst (Agree r) (same_rule k s c d) (agrees j r (omega arith) e)
            ];
      }
        where
          same_rule : (k : ℕ) (r : Rule) → k ≡ place → slice_get rules k ≡ Some r → q ≡ r
          same_rule k r c e = let m : Some q ≡ Some r = sym at ∙ ap (slice_get rules) (sym c) ∙ e in cc

      pub first_fault : (fault : FormFault) → IsFault shapes q fault → IsFirstFault shapes rules (place + 1) fault
      first_fault fault f = record { rule = q; is = numbered (place + 1) place q refl at; before = accepted_before (place + 1) refl; faulty = f }

      pub refused_overlap : (earlier : ℕ) (unifier : List (ℕ × Tree)) → HasForm shapes q → IsOverlapBefore rules place earlier q unifier → IsFirstOverlap shapes rules (earlier + 1) (place + 1) unifier
      refused_overlap earlier unifier form o = record {
        earlier = o.rule;
        rule = q;
        is_earlier = numbered (earlier + 1) earlier o.rule refl o.is;
        is = numbered (place + 1) place q refl at;
        in_order = (let b = o.before in omega arith);
        before = accepted_before (place + 1) refl;
        form = form;
        agrees = agrees_below;
        overlap = o.overlap;
      }
        where
          agrees_below : (n : ℕ) (r : Rule) → n < earlier + 1 → numbered_rule rules n ≡ Some r → Agree r q
          agrees_below zero r l e = cc
          agrees_below (suc n) r l e = o.agrees n r (omega arith) e

  pub judged_all : (place : ℕ) → AreJudged shapes rules place → length rules ≤ place → IsAccepted (record { shapes = shapes; rules = rules })
  judged_all place h l = subst (λ rs. IsAccepted (record { shapes = shapes; rules = rs })) (take_all place rules l) (judged_are_accepted place h)

-- the root that a view shows
pub root_from_view : (t : Tree) (f : Sym) → App f ≡ view_of t → has_root f.number t ≡ true
root_from_view (leaf x) f e = absurd (leaf_is_no_app x f (sym e))
root_from_view (app g ts) f e = let d : g ≡ f = cc in eq-eqb g.number f.number (ap (λ s. s.number) d)

pub root_within : (shapes : List Shape) (t : Tree) (f : Sym) → App f ≡ view_of t → HasDestructorRoot shapes t → f.number < length shapes
root_within shapes (leaf x) f e h = absurd h
root_within shapes (app g ts) f e h = let d : g ≡ f = cc in omega (arith, slice_get_within shapes g.number _ h, ap (λ s. s.number) d)

-- one more place in the index of all symbols
pub set_listed :
    {V : Type 0} (F : V → List ℕ) (vs : List V) (i place : ℕ) (v w : V) → slice_get vs i ≡ Some v → F w ≡ F v ++ place ∷ []
    → map F (slice_set vs i w) ≡ slice_set (map F vs) i (listed (map F vs) i ++ place ∷ [])
set_listed F [] i place v w e h = absurd (none-some v e)
set_listed F (x ∷ vs) zero place v w e h =
    let d : x ≡ v = cc in ap (λ l. l ∷ map F vs) (h ∙ ap (λ o. F o ++ place ∷ []) (sym d))
set_listed F (x ∷ vs) (suc i) place v w e h = ap (λ l. F x ∷ l) (set_listed F vs i place v w e h)

-- an element of a list, and what holds of each
pub one_there : {X : Type 0} (xs : List X) (i : ℕ) → i < length xs → (x : X) × (slice_get xs i ≡ Some x)
one_there [] i h = absurd (omega arith)
one_there (x ∷ xs) zero h = (x, refl)
one_there (x ∷ xs) (suc i) h = one_there xs i (omega arith)

pub all_at : {X : Type 0} (P : X → Type 0) (xs : List X) (i : ℕ) (x : X) → All P xs → i < length xs → x ≡ get_or xs i x → P x
all_at P xs i x h l e = subst P (sym e) (h i x l)

pub same_element : {X : Type 0} (xs : List X) (i : ℕ) (x y : X) → slice_get xs i ≡ Some x → slice_get xs i ≡ Some y → x ≡ y
same_element xs i x y a b = let m : Some x ≡ Some y = sym a ∙ b in cc

-- the overlap that was found
pub overlap_before :
    (shapes : List Shape) (rules : List Rule) (place : ℕ) (h : AreJudged shapes rules place) (q r : Rule) (earlier : List ℕ) (i : ℕ) (within : i < length earlier) (walk : Walk (take place rules) q (drop i earlier)) (unifier : List (ℕ × Tree))
    → slice_get rules (get_or earlier i 0) ≡ Some r → IsOverlap r q unifier → IsOverlapBefore rules place (get_or earlier i 0) q unifier
overlap_before shapes rules place h q r earlier i within walk unifier at o = record {
  before = (before_within shapes rules place h q earlier i within walk).0;
  agrees = before_agrees shapes rules place h q earlier i within walk;
  rule = r;
  is = at;
  overlap = o;
}

pub below_from_view : (n : ℕ) (t : Tree) (f : Sym) → App f ≡ view_of t → HasRootBelow n t → f.number < n
below_from_view n (leaf x) f e h = absurd h
below_from_view n (app g ts) f e h = let d : g ≡ f = cc in omega (arith, h, ap (λ s. s.number) d)
