-- What the rules of a destructor make of choices, rule by rule.
use Rattle.std.proofs.Common.{◌≡◌, ℕ, zero, suc, ◌+◌, ◌<◌, ◌≤◌, ◌^◌, List, [], ◌∷◌, ◌++◌, length, map, take, drop, get_or, slice_get, Some}
use Rattle.std.proofs.Common.{filter, refl, sym, ◌∙◌, ap, subst, arith, append_assoc, length-append, Bool, true, false, cond}
use Rattle.std.specs.Prelude.{All, Contains, max, min}
use Rattle.std.specs.List.{flat_map, cons_option, zip}
use Rattle.std.proofs.Math.Seq.{take-suc, drop-cons}
use Rattle.std.proofs.lemmas.List.{append-nil, map-append, take_all, drop_all}
use Rattle.std.proofs.lemmas.List.Elements.{All-nil, All-cons, All-append, filter_map-append}
use Rattle.dps_terms.specs.declared.Sym.{Sym}
use Rattle.dps_terms.specs.Tree.{Tree}
use Rattle.dps_unify.specs.Unifier.{IsNotUnifiable, IsMgu}
use Rattle.dps_terms.specs.Bindings.{image}
use Rattle.dps_unify.specs.Renaming.{HasRoom}
use Rattle.dps_theory.specs.Theory.{Rule, Theory, IsBounded, IsAccepted}
use Rattle.dps_theory.specs.Overlaps.{room, least_above}
use Rattle.dps_theory.specs.Index.{has_root, places_from, places}
use Rattle.dps_symeval.specs.Cases.{Choices, IsUnifiable, rules_of}
use Rattle.dps_symeval.specs.Agenda.{none_left, stays, goes, IsOpen, AreOpen, AddsOpen, at_places, reduced_last}
use Rattle.dps_symeval.proofs.Listed.{contains_first, contains_later}
use Rattle.dps_symeval.proofs.Complete.{left_below, right_below}
use Rattle.dps_symeval.proofs.Thinning.{beside}
use Rattle.dps_symeval.proofs.Mapping.{joined_append}

all_listed : (P : Rule → Type 0) (rules : List Rule) → ((r : Rule) → Contains rules r → P r) → All P rules
all_listed P [] h = All-nil P
all_listed P (r ∷ rules) h = All-cons P r rules (h r (contains_first r rules)) (all_listed P rules (λ q k. h q (contains_later r rules q k)))

pub none_open : AreOpen [] []
none_open = record { thinned = none_left; unifiable = All-nil IsOpen }

pub adds_nothing : (old : List Choices) → AddsOpen [] old old
adds_nothing old = record { added = []; are_open = none_open; behind = sym (append-nil old) }

open_beside : (all kept more added : List Choices) → AreOpen all kept → AreOpen more added → AreOpen (all ++ more) (kept ++ added)
open_beside all kept more added h k = record { thinned = beside h.thinned k.thinned; unifiable = All-append IsOpen kept added h.unifiable k.unifiable }

pub adds_one : (old new : List Choices) (d e : Choices) → d ≡ e → IsOpen d → new ≡ old ++ d ∷ [] → AddsOpen (e ∷ []) old new
adds_one old new d e same u n =
    subst (λ (x : Choices). AddsOpen (x ∷ []) old new) same
    (record { added = d ∷ []; are_open = record { thinned = stays none_left; unifiable = All-cons IsOpen d [] u (All-nil IsOpen) }; behind = n })

pub adds_none : (old : List Choices) (d : Choices) → IsNotUnifiable d.equations → AddsOpen (d ∷ []) old old
adds_none old d n = record { added = []; are_open = record { thinned = goes n none_left; unifiable = All-nil IsOpen }; behind = sym (append-nil old) }

adds_both : (all more old new after : List Choices) → AddsOpen all old new → AddsOpen more new after → AddsOpen (all ++ more) old after
adds_both all more old new after h k = record {
  added = h.added ++ k.added;
  are_open = open_beside all h.added more k.added h.are_open k.are_open;
  behind = k.behind ∙ (ap (λ cs. cs ++ k.added) h.behind ∙ append_assoc old h.added k.added);
}

-- choices one by one
pub adds_more :
    (f : Choices → List Choices) (cs : List Choices) (i j : ℕ) (d : Choices) (old new : List Choices) → i < length cs
    → j ≡ suc i → d ≡ get_or cs i d → AreOpen (flat_map f (take i cs)) old → AddsOpen (f d) old new
    → AreOpen (flat_map f (take j cs)) new
adds_more f cs i j d old new l s e h k =
    let one : take j cs ≡ take i cs ++ d ∷ [] = ap (λ m. take m cs) s ∙ (take-suc cs i d l ∙ ap (λ (x : Choices). take i cs ++ x ∷ []) (sym e)) in
    let parts : flat_map f (take i cs ++ d ∷ []) ≡ flat_map f (take i cs) ++ f d = joined_append f (take i cs) (d ∷ []) ∙ ap (λ xs. flat_map f (take i cs) ++ xs) (append-nil (f d)) in
    subst (λ xs. AreOpen (flat_map f xs) new) (sym one)
    (subst (λ xs. AreOpen xs new) (sym parts)
    (subst (AreOpen (flat_map f (take i cs) ++ f d)) (sym k.behind) (open_beside (flat_map f (take i cs)) old (f d) k.added h k.are_open)))

-- the rules at the places of a root
module _ (g : ℕ) where
  one_within : (b : Bool) (m : ℕ) (ps : List ℕ) (n : ℕ) → m < n → All (λ p. p < n) ps → All (λ p. p < n) (cond b (m ∷ ps) ps)
  one_within true m ps n l h = All-cons (λ p. p < n) m ps l h
  one_within false m ps n l h = h

  pub places_within : (rules : List Rule) (m n : ℕ) → m + length rules ≤ n → All (λ p. p < n) (places_from m rules g)
  places_within [] m n l = All-nil (λ p. p < n)
  places_within (r ∷ rules) m n l =
      one_within (has_root g r.left) m (places_from (suc m) rules g) n (omega arith) (places_within rules (suc m) n (omega arith))

  at_seam : (before : List Rule) (r : Rule) (rules : List Rule) → slice_get (before ++ (r ∷ rules)) (length before) ≡ Some r
  at_seam [] r rules = refl
  at_seam (q ∷ before) r rules = at_seam before r rules

  one_at : (all : List Rule) (b : Bool) (m : ℕ) (r : Rule) (ps : List ℕ) (rs : List Rule) → slice_get all m ≡ Some r → at_places all ps ≡ rs → at_places all (cond b (m ∷ ps) ps) ≡ cond b (r ∷ rs) rs
  one_at all true m r ps rs e h = ap (λ o. cons_option o (at_places all ps)) e ∙ ap (λ xs. r ∷ xs) h
  one_at all false m r ps rs e h = h

  at_from : (before rules : List Rule) (m : ℕ) → m ≡ length before → at_places (before ++ rules) (places_from m rules g) ≡ filter (λ (r : Rule). has_root g r.left) rules
  at_from before [] m e = refl
  at_from before (r ∷ rules) m e =
      let there : slice_get (before ++ (r ∷ rules)) m ≡ Some r = subst (λ k. slice_get (before ++ (r ∷ rules)) k ≡ Some r) (sym e) (at_seam before r rules) in
      let longer : suc m ≡ length (before ++ r ∷ []) = omega (arith, e, length-append before (r ∷ [])) in
      let later : at_places (before ++ (r ∷ rules)) (places_from (suc m) rules g) ≡ filter (λ (r : Rule). has_root g r.left) rules =
      subst (λ xs. at_places xs (places_from (suc m) rules g) ≡ filter (λ (r : Rule). has_root g r.left) rules)
      (append_assoc before (r ∷ []) rules) (at_from (before ++ r ∷ []) rules (suc m) longer) in
      one_at (before ++ (r ∷ rules)) (has_root g r.left) m r (places_from (suc m) rules g) (filter (λ (r : Rule). has_root g r.left) rules) there later

  pub at_all_places : (rules : List Rule) → at_places rules (places rules g) ≡ filter (λ (r : Rule). has_root g r.left) rules
  at_all_places rules = at_from [] rules 0 refl

  pub place_within : (rules : List Rule) (ps : List ℕ) (i : ℕ) → ps ≡ places rules g → i < length ps → get_or ps i 0 < length rules
  place_within rules ps i e l =
      let n : 0 + length rules ≤ length rules = omega arith in
      subst (λ xs. i < length xs → get_or xs i 0 < length rules) (sym e) (λ k. (places_within rules 0 (length rules) n) i 0 k) l

at_more : (rules : List Rule) (ps : List ℕ) (i : ℕ) (r : Rule) → i < length ps → slice_get rules (get_or ps i 0) ≡ Some r → at_places rules (take (suc i) ps) ≡ at_places rules (take i ps) ++ r ∷ []
at_more rules ps i r l e =
    ap (at_places rules) (take-suc ps i 0 l)
    ∙ (filter_map-append (slice_get rules) (take i ps) (get_or ps i 0 ∷ [])
    ∙ ap (λ o. at_places rules (take i ps) ++ cons_option o []) e)

module _ (n : ℕ) (c : Choices) (rules : List Rule) (ps : List ℕ) (i : ℕ) where
  pub reduces_more :
      (j : ℕ) (r : Rule) → i < length ps → slice_get rules (get_or ps i 0) ≡ Some r → j ≡ suc i → (old new after : List Choices)
      → AddsOpen (map (reduced_last n c) (at_places rules (take i ps))) old new → AddsOpen (reduced_last n c r ∷ []) new after
      → AddsOpen (map (reduced_last n c) (at_places rules (take j ps))) old after
  reduces_more j r l e s old new after h k =
      let made : map (reduced_last n c) (at_places rules (take j ps)) ≡ map (reduced_last n c) (at_places rules (take i ps)) ++ reduced_last n c r ∷ [] =
      ap (λ m. map (reduced_last n c) (at_places rules (take m ps))) s
      ∙ (ap (map (reduced_last n c)) (at_more rules ps i r l e) ∙ map-append (reduced_last n c) (at_places rules (take i ps)) (r ∷ [])) in
      subst (λ xs. AddsOpen xs old after) (sym made) (adds_both (map (reduced_last n c) (at_places rules (take i ps))) (reduced_last n c r ∷ []) old new after h k)

  pub reduces_all : (old new : List Choices) → length ps ≤ i → AddsOpen (map (reduced_last n c) (at_places rules (take i ps))) old new → AddsOpen (map (reduced_last n c) (at_places rules ps)) old new
  reduces_all old new l h = subst (λ xs. AddsOpen (map (reduced_last n c) (at_places rules xs)) old new) (take_all i ps l) h

-- the rules of a theory
pub all_within : (theory : Theory) (g : Sym) (rules : List Rule) (ps : List ℕ) → rules ≡ theory.rules → ps ≡ places theory.rules g.number → All (λ p. p < length rules) ps
all_within theory g rules ps e h =
    let n : 0 + length theory.rules ≤ length theory.rules = omega arith in
    subst (λ rs. All (λ p. p < length rs) ps) (sym e) (subst (λ qs. All (λ p. p < length theory.rules) qs) (sym h) (places_within g.number theory.rules 0 (length theory.rules) n))

pub all_bounded : (theory : Theory) (rules : List Rule) → rules ≡ theory.rules → IsAccepted theory → All IsBounded rules
all_bounded theory rules e a = subst (All IsBounded) (sym e) (all_listed IsBounded theory.rules (λ r k. a.bounded r k))

pub rules_at : (theory : Theory) (g : Sym) (rules : List Rule) (ps : List ℕ) → rules ≡ theory.rules → ps ≡ places theory.rules g.number → at_places rules ps ≡ rules_of theory g
rules_at theory g rules ps e h = (λ i. at_places (e i) (h i)) ∙ at_all_places g.number theory.rules

-- room for the numbers of a rule
pub left_room : (r : Rule) (next after : ℕ) → after ≡ next + room r → after < 2 ^ 64 → HasRoom r.left next
left_room r next after e l = λ n k. omega (arith, left_below r n k, e, l)

pub right_room : (r : Rule) (next after : ℕ) → IsBounded r → after ≡ next + room r → after < 2 ^ 64 → HasRoom r.right next
right_room r next after b e l = λ n k. omega (arith, right_below r b n k, e, l)

-- pairs one by one
pub zip_at : (xs ys : List Tree) (i : ℕ) (x y d : Tree) → i < length xs → x ≡ get_or xs i d → slice_get ys i ≡ Some y → take (suc i) (zip xs ys) ≡ take i (zip xs ys) ++ (x, y) ∷ []
zip_at [] ys i x y d l e h = absurd (omega (arith, l))
zip_at (a ∷ xs) [] i x y d l e h = cc
zip_at (a ∷ xs) (b ∷ ys) zero x y d l e h =
    let same : b ≡ y = cc in
    λ j. ((sym e) j, same j) ∷ []
zip_at (a ∷ xs) (b ∷ ys) (suc i) x y d l e h = ap (λ ps. (a, b) ∷ ps) (zip_at xs ys i x y d (omega (arith, l)) e h)

pub zip_whole : (xs ys : List Tree) (n : ℕ) → min (length xs) (length ys) ≤ n → take n (zip xs ys) ≡ zip xs ys
zip_whole [] ys zero l = refl
zip_whole [] ys (suc n) l = refl
zip_whole (x ∷ xs) [] zero l = refl
zip_whole (x ∷ xs) [] (suc n) l = refl
zip_whole (x ∷ xs) (y ∷ ys) zero l = absurd (omega (arith, l))
zip_whole (x ∷ xs) (y ∷ ys) (suc n) l = ap (λ ps. (x, y) ∷ ps) (zip_whole xs ys n (omega (arith, l)))

-- the number after those of a rule
pub least_step :
    (vs : List ℕ) (i j v next after above total : ℕ) → i < length vs → j ≡ suc i → v ≡ get_or vs i 0 → above ≡ v + next + 1
    → max after (next + least_above (drop i vs)) ≡ total → max (max after above) (next + least_above (drop j vs)) ≡ total
least_step vs i j v next after above total l s e a h =
    let first : least_above (drop i vs) ≡ max (suc v) (least_above (drop j vs)) =
    ap least_above (drop-cons vs i 0 l) ∙ ((λ k. max (suc ((sym e) k)) (least_above (drop ((sym s) k) vs)))) in
    omega (arith, first, a, h)

pub least_end : (vs : List ℕ) (i next after : ℕ) → length vs ≤ i → next ≤ after → max after (next + least_above (drop i vs)) ≡ next + least_above vs → after ≡ next + least_above vs
least_end vs i next after l k h =
    let none : least_above (drop i vs) ≡ 0 = ap least_above (drop_all i vs l) in
    omega (arith, none, k, h)

pub unified : (levels : List (ℕ × ℕ)) (pairs : List (Tree × Tree)) (s : List (ℕ × Tree)) → IsMgu levels pairs s → IsUnifiable pairs
unified levels pairs s h = (image s, h.unifies)

pub fits_next :
    (es : List (Tree × Tree)) (xs ys : List Tree) (i j : ℕ) (x y t u : Tree) (old new : List (Tree × Tree)) → j ≡ suc i
    → i < length xs → x ≡ get_or xs i x → slice_get ys i ≡ Some y → t ≡ x → u ≡ y → new ≡ old ++ (t, u) ∷ []
    → old ≡ es ++ take i (zip xs ys) → new ≡ es ++ take j (zip xs ys)
fits_next es xs ys i j x y t u old new s l e h a b n o =
    let pair : (t, u) ∷ [] ≡ (x, y) ∷ [] = λ k. (a k, b k) ∷ [] in
    n ∙ ((λ k. o k ++ pair k) ∙ (append_assoc es (take i (zip xs ys)) ((x, y) ∷ []) ∙ ap (λ ps. es ++ ps) (sym (ap (λ m. take m (zip xs ys)) s ∙ zip_at xs ys i x y x l e h))))

pub fits_all : (es : List (Tree × Tree)) (xs ys : List Tree) (i : ℕ) (all : List (Tree × Tree)) → min (length xs) (length ys) ≤ i → all ≡ es ++ take i (zip xs ys) → all ≡ es ++ zip xs ys
fits_all es xs ys i all l e = e ∙ ap (λ ps. es ++ ps) (zip_whole xs ys i l)
