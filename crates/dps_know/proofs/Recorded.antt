-- Compositions that stand in a tree.
use Rattle.std.proofs.Common.{◌≡◌, ℕ, zero, suc, ◌+◌, ◌<◌, ◌≤◌, List, [], ◌∷◌, ◌++◌, map, drop, drop-cons, add-one, append_assoc, length, slice_get, get_or, Option, Some, None, Contains, inl, inr, refl, ap, sym, subst, ◌∙◌, arith}
use Rattle.std.specs.List.{filter_map, cons_option}
use Rattle.std.proofs.lemmas.Option.{none-some, slice_get_within, slice_get-get_or}
use Rattle.std.proofs.lemmas.Bool.{cases_lt}
use Rattle.dps_terms.specs.Tree.{Tree, IsSubterm}
use Rattle.dps_know.specs.declared.know.Entry.{Entry}
use Rattle.dps_know.specs.Know.{IsNormal, HasCompositionIn}
use Rattle.dps_know.proofs.Listing.{in_cons, in_head, in_none, in_tail}

abbrev composition_of : Entry → Option Tree
composition_of e = e.composition

-- no composition of the first entries stands in the tree
abbrev pub HoldNoneOf : List Entry → ℕ → Tree → Type 0
HoldNoneOf entries i t = (j : ℕ) → j < i → (e : Entry) → slice_get entries j ≡ Some e → ¬ HasCompositionIn e t

recorded_one : (entries : List Entry) (j : ℕ) (e : Entry) (r : Tree) → slice_get entries j ≡ Some e → e.composition ≡ Some r
    → Contains (filter_map composition_of entries) r
recorded_one [] j e r here is = absurd (none-some e here)
recorded_one (d ∷ entries) zero e r here is =
    let same : d ≡ e = cc in
    subst (λ o. Contains (cons_option o (filter_map composition_of entries)) r) (sym (ap composition_of same ∙ is)) (in_head r (filter_map composition_of entries))
recorded_one (d ∷ entries) (suc j) e r here is = later d.composition entries r (recorded_one entries j e r here is)
  where
    later : (o : Option Tree) (entries : List Entry) (r : Tree) → Contains (filter_map composition_of entries) r
        → Contains (cons_option o (filter_map composition_of entries)) r
    later None entries r c = c
    later (Some t) entries r c = in_tail r t (filter_map composition_of entries) c

-- a recorded composition is one of an entry
record IsComposition (entries : List Entry) (r : Tree) : Type 0 where
  place : ℕ
  entry : Entry
  there : slice_get entries place ≡ Some entry
  is : entry.composition ≡ Some r

one_more : (d : Entry) (entries : List Entry) (r : Tree) → IsComposition entries r → IsComposition (d ∷ entries) r
one_more d entries r h = record { place = suc h.place; entry = h.entry; there = h.there; is = h.is }

is_one : (o : Option Tree) (d : Entry) (entries : List Entry) (r : Tree) → d.composition ≡ o
    → (Contains (filter_map composition_of entries) r → IsComposition entries r)
    → Contains (cons_option o (filter_map composition_of entries)) r → IsComposition (d ∷ entries) r
is_one None d entries r e below c = one_more d entries r (below c)
is_one (Some t) d entries r e below c = elim (in_cons r t (filter_map composition_of entries) c) [
  | inl same ↦ record { place = 0; entry = d; there = refl; is = e ∙ ap Some (sym same) }
  | inr k ↦ one_more d entries r (below k)
]

is_recorded : (entries : List Entry) (r : Tree) → Contains (filter_map composition_of entries) r → IsComposition entries r
is_recorded [] r c = absurd (in_none r c)
is_recorded (d ∷ entries) r c = is_one d.composition d entries r refl (is_recorded entries r) c

pub hold_more : (entries : List Entry) (i : ℕ) (e : Entry) (t : Tree) → HoldNoneOf entries i t → i < length entries → e ≡ get_or entries i e
    → ¬ HasCompositionIn e t → HoldNoneOf entries (i + 1) t
hold_more entries i e t h within at none j l d there c =
    elim (cases_lt j i) [
      | inl below ↦ h j below d there c
      | inr above ↦
          let here : j ≡ i = omega (arith, l, above) in
          let e_there : slice_get entries i ≡ Some e = slice_get-get_or entries i e within ∙ ap Some (sym at) in
          let same : Some d ≡ Some e = sym there ∙ ap (slice_get entries) here ∙ e_there in
          let is : d ≡ e = cc in
          none (subst (λ x. HasCompositionIn x t) is c)
    ]

pub hold_none : (entries : List Entry) (i : ℕ) (t : Tree) → HoldNoneOf entries i t → length entries ≤ i → IsNormal (filter_map composition_of entries) t
hold_none entries i t h l r c s =
    let k = is_recorded entries r c in
    h k.place (omega (arith, l, slice_get_within entries k.place k.entry k.there)) k.entry k.there (r, k.is, s)

pub holds_one : (entries : List Entry) (i : ℕ) (e : Entry) (t : Tree) → i < length entries → e ≡ get_or entries i e → HasCompositionIn e t
    → ¬ IsNormal (filter_map composition_of entries) t
holds_one entries i e t within at h normal =
    normal h.0 (recorded_one entries i e h.0 (slice_get-get_or entries i e within ∙ ap Some (sym at)) h.1) h.2

-- none of the first compositions stands in the tree
abbrev pub FirstAvoid : List Tree → ℕ → Tree → Type 0
FirstAvoid recorded i t = (j : ℕ) → j < i → (r : Tree) → slice_get recorded j ≡ Some r → ¬ IsSubterm r t

pub avoid_more : (recorded : List Tree) (i : ℕ) (r t : Tree) → FirstAvoid recorded i t → i < length recorded → r ≡ get_or recorded i r → ¬ IsSubterm r t
    → FirstAvoid recorded (i + 1) t
avoid_more recorded i r t h within at none j l s there k =
    elim (cases_lt j i) [
      | inl below ↦ h j below s there k
      | inr above ↦
          let here : j ≡ i = omega (arith, l, above) in
          let r_there : slice_get recorded i ≡ Some r = slice_get-get_or recorded i r within ∙ ap Some (sym at) in
          let same : Some r ≡ Some s = sym r_there ∙ ap (slice_get recorded) (sym here) ∙ there in
          let is : s ≡ r = cc in
          none (subst (λ u. IsSubterm u t) is k)
    ]

place_of : (recorded : List Tree) (r : Tree) → Contains recorded r → (j : ℕ) × (slice_get recorded j ≡ Some r)
place_of [] r c = absurd (in_none r c)
place_of (s ∷ recorded) r c = elim (in_cons r s recorded c) [
  | inl e ↦ (0, ap Some (sym e))
  | inr k ↦ let p = place_of recorded r k in (suc p.0, p.1)
]

pub avoid_all : (recorded : List Tree) (i : ℕ) (t : Tree) → FirstAvoid recorded i t → length recorded ≤ i → IsNormal recorded t
avoid_all recorded i t h l r c s =
    let k = place_of recorded r c in h k.0 (omega (arith, l, slice_get_within recorded k.0 r k.1)) r k.1 s

pub avoids_not : (recorded : List Tree) (i : ℕ) (r t : Tree) → i < length recorded → r ≡ get_or recorded i r → IsSubterm r t → ¬ IsNormal recorded t
avoids_not recorded i r t within at s normal = normal r (i, within, sym at) s

-- compositions one after the other
pub compositions_more : (F : Tree → Tree) (entries : List Entry) (i : ℕ) (e : Entry) (made more whole : List Tree) → i < length entries → e ≡ get_or entries i e
    → made ++ map F (filter_map (λ (d : Entry). d.composition) (drop i entries)) ≡ whole → more ≡ made ++ map F (cons_option e.composition [])
    → more ++ map F (filter_map (λ (d : Entry). d.composition) (drop (i + 1) entries)) ≡ whole
compositions_more F entries i e made more whole within at h grown =
    let split : drop i entries ≡ e ∷ drop (i + 1) entries =
    drop-cons entries i e within ∙ (λ j. sym at j ∷ drop (suc i) entries) ∙ ap (λ n. e ∷ drop n entries) (sym (add-one i)) in
    let rest : List Tree = filter_map composition_of (drop (i + 1) entries) in
    ap (λ ts. ts ++ map F rest) grown ∙ append_assoc made (map F (cons_option e.composition [])) (map F rest) ∙ ap (λ ts. made ++ ts) (joined e.composition rest)
    ∙ ap (λ es. made ++ map F (filter_map composition_of es)) (sym split) ∙ h
  where
    joined : (o : Option Tree) (ts : List Tree) → map F (cons_option o []) ++ map F ts ≡ map F (cons_option o ts)
    joined None ts = refl
    joined (Some t) ts = refl
