-- Items at places of lists, and the lists without them.
use Rattle.std.proofs.Common.{◌≡◌, ℕ, zero, suc, ◌<◌, ◌+◌, List, [], ◌∷◌, ◌++◌, length, get_or, take, drop, map, refl, sym, ◌∙◌, ap, subst, inl, inr, arith}
use Rattle.std.specs.Prelude.{Contains}
use Rattle.std.proofs.lemmas.List.{map-append, take-map, drop-map}
use Rattle.dps_bags.specs.Bags.{Draws, drawn_here, drawn_there, IsRepeated}
use Rattle.dps_bags.proofs.Holding.{contains_first, contains_later, contains_cases, mapped_item, mapped_length}
use Rattle.dps_bags.proofs.Drawing.{drawn_at}
use Rattle.dps_process.specs.Process.{Process, nil}
use Rattle.dps_process.specs.Steps.{Removes, here, there, IsReordered, a_part}
use Rattle.dps_process.proofs.Bags.{reordered_refl, put_back}
use Rattle.dps_semantics.specs.Parts.{left_at, part_of, parts_of, AreNumbers}

left_next : {A : Type 0} (x : A) (xs : List A) (i : ℕ) → left_at (suc i) (x ∷ xs) ≡ x ∷ left_at i xs
left_next x xs i = let e : suc i + 1 ≡ suc (i + 1) = omega arith in ap (λ k. take (suc i) (x ∷ xs) ++ drop k (x ∷ xs)) e

pub removes_at : (ps : List Process) (i : ℕ) → i < length ps → Removes (get_or ps i nil) ps (left_at i ps)
removes_at [] i h = absurd (omega (arith, h))
removes_at (p ∷ ps) zero h = here
removes_at (p ∷ ps) (suc i) h =
    subst (λ (rest : List Process). Removes (get_or ps i nil) (p ∷ ps) rest) (sym (left_next p ps i)) (there (removes_at ps i (omega (arith, h))))

abbrev pub IsAt : Process → List Process → List Process → Type 0
IsAt p ps rest = (i : ℕ) × (i < length ps) × (get_or ps i nil ≡ p) × (rest ≡ left_at i ps)

one_later : (q p : Process) (ps rest : List Process) → IsAt p ps rest → IsAt p (q ∷ ps) (q ∷ rest)
one_later q p ps rest h = (suc h.0, omega (arith, h.1), h.2, ap (λ xs. q ∷ xs) h.3 ∙ sym (left_next q ps h.0))

pub at_removed : {p : Process} {ps rest : List Process} → Removes p ps rest → IsAt p ps rest
at_removed here = (0, omega arith, refl, refl)
at_removed {p} (there {q} {ps} {rest} r) = one_later q p ps rest (at_removed r)

-- where two neighbours are equal, either may be left out
pub same_left : {A : Type 0} (xs : List A) (j : ℕ) (d : A) → suc j < length xs → get_or xs j d ≡ get_or xs (suc j) d → left_at (suc j) xs ≡ left_at j xs
same_left [] j d h e = absurd (omega (arith, h))
same_left (a ∷ []) j d h e = absurd (omega (arith, h))
same_left (a ∷ b ∷ xs) zero d h e = left_next a (b ∷ xs) zero ∙ ap (λ x. x ∷ xs) e
same_left (a ∷ b ∷ xs) (suc j) d h e =
    left_next a (b ∷ xs) (suc j) ∙ (ap (λ ys. a ∷ ys) (same_left (b ∷ xs) j d (omega (arith, h)) e) ∙ sym (left_next a (b ∷ xs) j))

-- the numbers of what is left are those of the parts that are left
pub left_parts : (table : List Process) (i : ℕ) (ns : List ℕ) → parts_of table (left_at i ns) ≡ left_at i (parts_of table ns)
left_parts table i ns =
    map-append (part_of table) (take i ns) (drop (i + 1) ns)
    ∙ (ap (λ xs. xs ++ map (part_of table) (drop (i + 1) ns)) (sym (take-map (part_of table) i ns))
    ∙ ap (λ xs. take i (parts_of table ns) ++ xs) (sym (drop-map (part_of table) (i + 1) ns)))

pub part_at : (table : List Process) (ns : List ℕ) (i : ℕ) → i < length ns → get_or (parts_of table ns) i nil ≡ part_of table (get_or ns i 0)
part_at table ns i h = mapped_item (part_of table) ns i 0 nil h

pub part_count : (table : List Process) (ns : List ℕ) → length (parts_of table ns) ≡ length ns
part_count table ns = mapped_length (part_of table) ns

-- what is left is the same bag, whichever of two equal parts is removed
pub two_removed : {p q : Process} {ps rest other : List Process} → p ≡ q → Removes p ps rest → Removes q ps other → IsReordered rest other
two_removed {rest = rest} e here here = reordered_refl rest
two_removed {ps = ps} e here (there {ps = ps2} {rest = left} r) = subst (λ (z : Process). IsReordered ps2 (z ∷ left)) (sym e) (put_back r (reordered_refl left))
two_removed e (there {ps = ps2} {rest = left} r) here = subst (λ (z : Process). IsReordered (z ∷ left) ps2) e (a_part r (reordered_refl left))
two_removed e (there r) (there s) = a_part here (two_removed e r s)

-- at a number that is that of the place before, the same part is left out
abbrev pub IsAsBefore : List Process → ℕ → Type 0
IsAsBefore ps i = (j : ℕ) × (j < i) × (get_or ps i nil ≡ get_or ps j nil) × (left_at i ps ≡ left_at j ps)

pub repeated_at : (table : List Process) (ns : List ℕ) (i : ℕ) → i < length ns → IsRepeated ns i → IsAsBefore (parts_of table ns) i
repeated_at table ns i h (j, e, f) =
    let ps : List Process = parts_of table ns in
    let next : i ≡ suc j = omega (arith, e) in
    let within : j < length ns = omega (arith, e, h) in
    let same : get_or ps i nil ≡ get_or ps j nil = part_at table ns i h ∙ (ap (part_of table) (sym f) ∙ sym (part_at table ns j within)) in
    let last : suc j < length ps = omega (arith, h, next, part_count table ns) in
    let equal : get_or ps j nil ≡ get_or ps (suc j) nil = subst (λ (k : ℕ). get_or ps j nil ≡ get_or ps k nil) next (sym same) in
    (j, omega (arith, e), same, ap (λ k. left_at k ps) next ∙ same_left ps j nil last equal)

pub draws_within : {n m : ℕ} {ns rest : List ℕ} → Draws n ns rest → Contains rest m → Contains ns m
draws_within {n} {m} (drawn_here {ns}) c = contains_later n ns m c
draws_within {n} {m} (drawn_there {m = k} {ns} {rest} d) c =
    elim (contains_cases k rest m c) [
      | inl e ↦ subst (λ (x : ℕ). Contains (k ∷ ns) x) (sym e) (contains_first k ns)
      | inr r ↦ contains_later k ns m (draws_within d r)
    ]

pub left_numbers : (table : List Process) (ns : List ℕ) (i : ℕ) → i < length ns → AreNumbers table ns → AreNumbers table (left_at i ns)
left_numbers table ns i h a n c = a n (draws_within (drawn_at ns i h) c)
