-- What different parts do leads to different configurations.
use Rattle.std.proofs.Common.{◌≡◌, ℕ, ◌<◌, List, [], ◌∷◌, length, get_or, refl, ◌∙◌, ap, subst, arith}
use Rattle.dps_terms.specs.Tree.{Tree}
use Rattle.dps_terms.specs.Replace.{variables_to}
use Rattle.dps_theory.specs.Theory.{Theory}
use Rattle.dps_process.specs.Process.{Process, nil, parallel, choice, conditional, bind, input, output, only, process_nodes}
use Rattle.dps_process.specs.Steps.{Config, Removes, here, there, IsReordered, a_part, AreOneBag}
use Rattle.dps_process.proofs.Bags.{reordered_refl, reordered_trans, reordered_sym, put_back}
use Rattle.dps_process.proofs.Replacements.{process_nodes-replace_in}
use Rattle.dps_semantics.specs.Parts.{left_at}
use Rattle.dps_semantics.specs.Asking.{GoesOn}
use Rattle.dps_semantics.specs.Acting.{ActsAt}
use Rattle.dps_semantics.specs.declared.moving.Asked.{Asked}
use Rattle.dps_semantics.specs.declared.moving.Asked.TheVariants.{Input, Output}
use Rattle.dps_semantics.proofs.Places.{removes_at}

-- a part is smaller after what it does
goes_down : (theory : Theory) (part : Process) (asked : Asked) (then : Process) (added : List Tree) → GoesOn theory part asked then added → process_nodes then < process_nodes part
goes_down theory (input c x p) (Input d t) then added g =
    let e : process_nodes then ≡ process_nodes p = ap process_nodes g.1 ∙ process_nodes-replace_in (variables_to (only x t)) p in omega (arith, e)
goes_down theory (output c u p) (Output d) then added g = let e : process_nodes then ≡ process_nodes p = ap process_nodes g.1 in omega (arith, e)
goes_down theory (input c x p) (Output d) then added g = absurd g
goes_down theory (output c u p) (Input d t) then added g = absurd g
goes_down theory nil (Input d t) then added g = absurd g
goes_down theory nil (Output d) then added g = absurd g
goes_down theory (parallel m n) (Input d t) then added g = absurd g
goes_down theory (parallel m n) (Output d) then added g = absurd g
goes_down theory (choice m n) (Input d t) then added g = absurd g
goes_down theory (choice m n) (Output d) then added g = absurd g
goes_down theory (conditional u v m n) (Input d t) then added g = absurd g
goes_down theory (conditional u v m n) (Output d) then added g = absurd g
goes_down theory (bind x u m n) (Input d t) then added g = absurd g
goes_down theory (bind x u m n) (Output d) then added g = absurd g

-- each of two different parts is left where the other is taken out
abbrev BothLeft : Process → Process → List Process → List Process → Type 0
BothLeft p q rest other = (both : List Process) × Removes q rest both × Removes p other both

both_left : {p q : Process} {ps rest other : List Process} → ¬ (p ≡ q) → Removes p ps rest → Removes q ps other → BothLeft p q rest other
both_left n here here = absurd (n refl)
both_left n here (there {rest = left} r) = (left, r, here)
both_left n (there {rest = left} r) here = (left, here, r)
both_left n (there {q = z} r) (there s) = let b = both_left n r s in (z ∷ b.0, there b.1, there b.2)

without_first : {p q : Process} {ps qs : List Process} → p ≡ q → IsReordered (p ∷ ps) (q ∷ qs) → IsReordered ps qs
without_first e (a_part here r) = r
without_first {qs = qs} e (a_part (there {rest = left} s) r) =
    reordered_trans r (reordered_sym (subst (λ (z : Process). IsReordered qs (z ∷ left)) e (put_back s (reordered_refl left))))

to_front : (p q r : Process) (ps : List Process) → IsReordered (r ∷ p ∷ q ∷ ps) (p ∷ q ∷ r ∷ ps)
to_front p q r ps = a_part (there (there here)) (reordered_refl (p ∷ q ∷ ps))

without_others : {p q r s : Process} (others : List Process) → IsReordered (p ∷ q ∷ others) (r ∷ s ∷ others) → IsReordered (p ∷ q ∷ []) (r ∷ s ∷ [])
without_others [] h = h
without_others {p} {q} {r} {s} (z ∷ others) h =
    without_others others (without_first refl (reordered_trans (to_front p q z others) (reordered_trans h (reordered_sym (to_front r s z others)))))

two_parts : {p q then other : Process} → ¬ (p ≡ q) → IsReordered (then ∷ q ∷ []) (other ∷ p ∷ []) → then ≡ p
two_parts n (a_part here (a_part here r)) = absurd (n refl)
two_parts n (a_part here (a_part (there s) r)) = elim s [ ]
two_parts n (a_part (there here) r) = refl
two_parts n (a_part (there (there s)) r) = elim s [ ]

-- where what two different parts become leaves the same parts, the first has become itself
becomes_itself : {p q then other : Process} {ps rest left : List Process} → ¬ (p ≡ q) → Removes p ps rest → Removes q ps left → IsReordered (then ∷ rest) (other ∷ left) → then ≡ p
becomes_itself {then = then} {other} n r s h =
    let b = both_left n r s in
    let first = a_part here (reordered_sym (put_back b.1 (reordered_refl b.0))) in
    let second = a_part here (put_back b.2 (reordered_refl b.0)) in
    two_parts n (without_others b.0 (reordered_trans first (reordered_trans h second)))

module _ (theory : Theory) (asked : Asked) (c : Config) where
  pub acts_apart : (i j : ℕ) → i < length c.parts → j < length c.parts → ¬ (get_or c.parts i nil ≡ get_or c.parts j nil) → (d e : Config) → ActsAt theory asked c i d → ActsAt theory asked c j e
      → ¬ AreOneBag d e
  acts_apart i j k l n d e (then, added, g, f) (other, more, h, m) b =
      let one = subst (λ (x : Config). IsReordered x.parts e.parts) f b.parts in
      let two = subst (λ (x : Config). IsReordered (then ∷ left_at i c.parts) x.parts) m one in
      let same = becomes_itself n (removes_at c.parts i k) (removes_at c.parts j l) two in
      let down = goes_down theory (get_or c.parts i nil) asked then added g in
      let level : process_nodes then ≡ process_nodes (get_or c.parts i nil) = ap process_nodes same in
      absurd (omega (arith, down, level))
