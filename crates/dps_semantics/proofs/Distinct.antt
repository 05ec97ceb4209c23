-- In a table where no part stands twice, numbers in ascending order that stand for the same parts are the same.
use Rattle.std.proofs.Common.{◌≡◌, ℕ, zero, suc, ◌<◌, List, [], ◌∷◌, length, get_or, drop, map, refl, sym, ◌∙◌, ap, subst, inl, inr, arith}
use Rattle.std.specs.Prelude.{◌⊎◌}
use Rattle.std.specs.List.{sum_by}
use Rattle.std.specs.List.Sorted.{IsNonDecreasing}
use Rattle.std.proofs.lemmas.List.Elements.{Contains-get_or}
use Rattle.std.proofs.lemmas.List.Sums.{sum_by-cons}
use Rattle.dps_terms.specs.Tree.{Tree}
use Rattle.dps_bags.specs.Apart.{StandOnce}
use Rattle.dps_bags.specs.Bags.{Draws, drawn_here, drawn_there, AreKept}
use Rattle.dps_bags.proofs.Holding.{contains_first, contains_later, mapped_length, mapped_item}
use Rattle.dps_bags.proofs.Shuffling.{drawn_sum, ascending_same}
use Rattle.dps_process.specs.Process.{Process, nil}
use Rattle.dps_process.specs.Steps.{Config, Removes, here, there, IsReordered, no_parts, a_part, AreOneBag}
use Rattle.dps_semantics.specs.Settling.{EachStandsOnce}
use Rattle.dps_semantics.specs.Parts.{part_of, parts_of, AreNumbers, AreAllNumbers}
use Rattle.dps_semantics.proofs.Places.{draws_within}
use Rattle.dps_semantics.specs.Configs.{config_of, AreConfigsOf}

either_way : (n m : ℕ) → (n < m) ⊎ ((n ≡ m) ⊎ (m < n))
either_way n m = grind arith

module _ (table : List Process) (once : StandOnce nil table) where
  same_number : (n m : ℕ) → n < length table → m < length table → part_of table n ≡ part_of table m → n ≡ m
  same_number n m h k e = elim (either_way n m) [
    | inl l ↦ absurd (once n m l k e)
    | inr s ↦ elim s [ inl f ↦ f | inr l ↦ absurd (once m n l h (sym e)) ]
  ]

  abbrev DrawnPart : ℕ → List ℕ → List Process → Type 0
  DrawnPart n ns rest = (left : List ℕ) × Draws n ns left × (rest ≡ parts_of table left)

  -- a part is taken out just where its number is drawn
  drawn_part : (n : ℕ) → n < length table → (ns : List ℕ) → AreNumbers table ns → {p : Process} {ps rest : List Process} → Removes p ps rest → ps ≡ parts_of table ns
      → p ≡ part_of table n → DrawnPart n ns rest
  drawn_part n h [] a here e f = cc
  drawn_part n h [] a (there r) e f = cc
  drawn_part n h (m ∷ ns) a here e f =
      let one = same_number n m h (a m (contains_first m ns)) (sym f ∙ ap (λ xs. get_or xs zero nil) e) in
      (ns, subst (λ k. Draws n (k ∷ ns) ns) one drawn_here, ap (drop (suc zero)) e)
  drawn_part n h (m ∷ ns) a (there {q} {rest = others} r) e f =
      let d = drawn_part n h ns (λ k c. a k (contains_later m ns k c)) r (ap (drop (suc zero)) e) f in
      (m ∷ d.0, drawn_there d.1, ap (λ p. p ∷ others) (ap (λ xs. get_or xs zero nil) e) ∙ ap (λ ps. part_of table m ∷ ps) d.2)

  reordered_sums : (ns ms : List ℕ) → AreNumbers table ns → AreNumbers table ms → {ps qs : List Process} → IsReordered ps qs → ps ≡ parts_of table ns → qs ≡ parts_of table ms
      → (f : ℕ → ℕ) → sum_by f ms ≡ sum_by f ns
  reordered_sums [] [] a b no_parts e g f = refl
  reordered_sums [] (m ∷ ms) a b no_parts e g f = cc
  reordered_sums (n ∷ ns) ms a b no_parts e g f = cc
  reordered_sums [] ms a b (a_part r s) e g f = cc
  reordered_sums (n ∷ ns) ms a b (a_part r s) e g f =
      let d = drawn_part n (a n (contains_first n ns)) ms b r g (ap (λ xs. get_or xs zero nil) e) in
      let k = reordered_sums ns d.0 (λ m c. a m (contains_later n ns m c)) (λ m c. b m (draws_within d.1 c)) s (ap (drop (suc zero)) e) d.2 f in
      omega (arith, drawn_sum f d.1, k, sum_by-cons f n ns)

  pub same_parts : (ns ms : List ℕ) → AreNumbers table ns → AreNumbers table ms → IsNonDecreasing ns → IsNonDecreasing ms → IsReordered (parts_of table ns) (parts_of table ms) → ns ≡ ms
  same_parts ns ms a b c d r = ascending_same ns ms c d (reordered_sums ns ms a b r refl refl)

  -- the configurations of different bags are different
  pub configs_once : (bags : List (List ℕ)) (frame : List Tree) (configs : List Config) → AreKept bags → AreAllNumbers table bags → AreConfigsOf table bags frame configs → EachStandsOnce configs
  configs_once bags frame configs k a e = subst EachStandsOnce (sym e) apart
    where
      none : Config
      none = record { parts = []; frame = [] }

      item : (i : ℕ) → i < length bags → get_or (map (config_of table frame) bags) i none ≡ config_of table frame (get_or bags i [])
      item i h = mapped_item (config_of table frame) bags i [] none h

      apart : EachStandsOnce (map (config_of table frame) bags)
      apart i j l h b =
          let m : j < length bags = subst (λ n. j < n) (mapped_length (config_of table frame) bags) h in
          let n : i < length bags = omega (arith, l, m) in
          let one = subst (λ (c : Config). AreOneBag c (get_or (map (config_of table frame) bags) j none)) (item i n) b in
          let two = subst (λ (c : Config). AreOneBag (config_of table frame (get_or bags i [])) c) (item j m) one in
          let first = Contains-get_or bags i [] n in
          let second = Contains-get_or bags j [] m in
          k.once i j l m
          (same_parts (get_or bags i []) (get_or bags j []) (a (get_or bags i []) first) (a (get_or bags j []) second) (k.ascending (get_or bags i []) first)
          (k.ascending (get_or bags j []) second) two.parts)
