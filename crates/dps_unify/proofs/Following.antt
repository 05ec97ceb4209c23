-- Terms walked over from the last node to the first, through what variables are bound to.
use Rattle.std.proofs.Common.{◌≡◌, ℕ, zero, suc, ◌+◌, ◌-◌, ◌<◌, ◌≤◌, List, [], ◌∷◌, ◌++◌, length, map, take, drop, ap, sym, subst, ◌∙◌, arith, length-append}
use Rattle.std.specs.Prelude.{reverse}
use Rattle.std.proofs.lemmas.List.{reverse-append, take-append-le, drop-append-le, length-map, take-map, drop-map}
use Rattle.dps_terms.specs.Tree.{Tree, node_count}
use Rattle.dps_terms.specs.Views.{arguments}
use Rattle.dps_terms.specs.Seen.{seen}
use Rattle.dps_terms.specs.Walk.{subterms_from}
use Rattle.dps_unify.specs.Places.{gone_through, Finishes}
use Rattle.dps_unify.specs.declared.place.Place.{Place}

-- a part of a list is no longer than the list
part_le : (xs : List Tree) (n : ℕ) → length (take n xs) ≡ n → n ≤ length xs
part_le xs zero e = omega arith
part_le [] (suc n) e = absurd (omega (arith, e))
part_le (x ∷ xs) (suc n) e = omega (arith, part_le xs n (omega (arith, e)))

module _ (F : Tree → Tree) where
  -- a term is gone through
  pub at_root : (p : Place) (ps : List Place) (stack : List Tree) (whole : Tree) → p.left ≡ 0 → Finishes F (p ∷ ps) stack whole → Finishes F ps stack whole
  at_root p ps stack whole z h =
      let s : stack ≡ F (seen p.term) ∷ h.1 = h.2 ∙ ap (λ n. map F (subterms_from (seen p.term) n) ++ h.1) z in
      subst (λ xs. Finishes F ps xs whole) (sym s) h.3

  -- one node before
  pub before : (p q : Place) (ps : List Place) (stack after : List Tree) (s : Tree) (whole : Tree)
      → q.term ≡ p.term → q.left ≡ p.left - 1 → 0 < p.left
      → subterms_from (seen p.term) (p.left - 1) ≡ s ∷ drop (length (arguments s)) (subterms_from (seen p.term) (p.left - 1 + 1))
      → arguments s ≡ take (length (arguments s)) (subterms_from (seen p.term) (p.left - 1 + 1))
      → after ≡ F s ∷ drop (length (arguments s)) stack
      → Finishes F (p ∷ ps) stack whole → Finishes F (q ∷ ps) after whole
  before p q ps stack after s whole t l some first below e h =
      let n = length (arguments s) in
      let xs = gone_through p in
      let here : p.left - 1 + 1 ≡ p.left = omega arith in
      let below_is : arguments s ≡ take n xs = below ∙ ap (λ k. take n (subterms_from (seen p.term) k)) here in
      let fits : n ≤ length xs = part_le xs n (sym (ap length below_is)) in
      let gone : gone_through q ≡ s ∷ drop n xs =
      (λ i. subterms_from (seen (t i)) (l i)) ∙ (first ∙ ap (λ k. s ∷ drop n (subterms_from (seen p.term) k)) here) in
      let stack_is : drop n stack ≡ map F (drop n xs) ++ h.1 =
      ap (drop n) h.2
      ∙ (drop-append-le n (map F xs) h.1 (omega (arith, fits, length-map xs F))
      ∙ ap (λ ys. ys ++ h.1) (drop-map F n xs)) in (
        subst (λ u. q.left ≤ node_count (seen u)) (sym t) (omega (arith, l, h.0)),
        h.1,
        e ∙ (ap (λ ys. F s ∷ ys) stack_is ∙ ap (λ ys. map F ys ++ h.1) (sym gone)),
        subst (λ u. Finishes F ps (F (seen u) ∷ h.1) whole) (sym t) h.3,
      )

  -- as many terms are there as the node has arguments, which are made already
  pub made : (p : Place) (ps : List Place) (stack : List Tree) (s : Tree) (whole : Tree) → 0 < p.left
      → arguments s ≡ take (length (arguments s)) (subterms_from (seen p.term) (p.left - 1 + 1))
      → Finishes F (p ∷ ps) stack whole
      → (length (arguments s) ≤ length stack) × (take (length (arguments s)) stack ≡ map F (arguments s))
  made p ps stack s whole some below h =
      let n = length (arguments s) in
      let xs = gone_through p in
      let here : p.left - 1 + 1 ≡ p.left = omega arith in
      let below_is : arguments s ≡ take n xs = below ∙ ap (λ k. take n (subterms_from (seen p.term) k)) here in
      let fits : n ≤ length xs = part_le xs n (sym (ap length below_is)) in (
        omega (arith, fits, length-map xs F, length-append (map F xs) h.1, ap length h.2),
        ap (take n) h.2
            ∙ (take-append-le n (map F xs) h.1 (omega (arith, fits, length-map xs F))
            ∙ (take-map F n xs ∙ ap (map F) (sym below_is))),
      )

  -- a variable's term is entered
  pub enter : (u : Place) (ps : List Place) (stack : List Tree) (made_of : Tree) (whole : Tree)
      → gone_through u ≡ [] → u.left ≤ node_count (seen u.term) → F (seen u.term) ≡ made_of
      → Finishes F ps (made_of ∷ stack) whole → Finishes F (u ∷ ps) stack whole
  enter u ps stack made_of whole none fits e h = (
    fits,
    stack,
    ap (λ ys. map F ys ++ stack) (sym none),
    subst (λ t. Finishes F ps (t ∷ stack) whole) (sym e) h,
  )

pub last_first : (old new : List Place) (p : Place) → new ≡ old ++ p ∷ [] → reverse new ≡ p ∷ reverse old
last_first old new p e = ap reverse e ∙ reverse-append old (p ∷ [])
