-- What numbers of outputs stand for.
use Rattle.std.proofs.Common.{◌≡◌, ℕ, zero, suc, ◌+◌, List, [], ◌∷◌, ◌++◌, refl, sym, ap, subst, arith, take, drop, Some}
use Rattle.std.specs.Prelude.{slice_get}
use Rattle.std.specs.List.Sorted.{IsPermutation}
use Rattle.std.proofs.lemmas.Option.{none-some}
use Rattle.dps_terms.specs.Tree.{Tree}
use Rattle.dps_process.specs.Process.{Process, nil, parallel, output}
use Rattle.dps_process.specs.Steps.{Removes, here, there, IsReordered, no_parts as none_reordered, a_part as part_reordered}
use Rattle.dps_process.proofs.Bags.{reordered_refl, reordered_trans, reordered_sym, before_reordered}
use Rattle.dps_tree.specs.Playing.{settled}
use Rattle.dps_tree.specs.Table.{StandFor, no_parts, a_part, StandForBag, IsGrown, messages_of}
use Rattle.dps_tree.specs.declared.table.Output.{Output}
use Rattle.dps_tree.specs.declared.table.Table.{Table}
use Rattle.dps_tree.proofs.Shuffling.{Draws, drawn_here, drawn_there, IsShuffled, no_numbers, a_number, shuffled}

-- what stands for parts before the table grew stands for them after it
pub stand_grown : {old new : Table} → IsGrown old new → {ns : List ℕ} {ps : List Process} → StandFor old ns ps → StandFor new ns ps
stand_grown g no_parts = no_parts
stand_grown g (a_part e m below r rest) = a_part (g.outputs _ _ e) (g.messages _ _ m) (stand_grown g below) r (stand_grown g rest)

pub bag_grown : {old new : Table} → IsGrown old new → {ns : List ℕ} {ps : List Process} → StandForBag old ns ps → StandForBag new ns ps
bag_grown g h = (h.0, stand_grown g h.1, h.2)

pub grown_refl : (table : Table) → IsGrown table table
grown_refl table = record { outputs = λ n o e. e; messages = λ n u e. e }

pub grown_trans : {a b c : Table} → IsGrown a b → IsGrown b c → IsGrown a c
grown_trans g h = record { outputs = λ n o e. h.outputs n o (g.outputs n o e); messages = λ n u e. h.messages n u (g.messages n u e) }

-- one number and one part
abbrev pub StandsForOne : Table → ℕ → Process → Type 0
StandsForOne table n p = StandFor table (n ∷ []) (p ∷ [])

-- the parts of a list in two
pub record StandApart (table : Table) (ns ms : List ℕ) (ps : List Process) : Type 0 where
  pub front : List Process
  pub back : List Process
  pub same : ps ≡ front ++ back
  pub first : StandFor table ns front
  pub second : StandFor table ms back

-- a number and its part, and the others
pub record StandFirst (table : Table) (n : ℕ) (ns : List ℕ) (ps : List Process) : Type 0 where
  pub part : Process
  pub others : List Process
  pub same : ps ≡ part ∷ others
  pub one : StandsForOne table n part
  pub rest : StandFor table ns others

-- what a number stands for
pub record StandsForOutput (table : Table) (n : ℕ) (p : Process) : Type 0 where
  pub output_of : Output
  pub message : Tree
  pub then : Process
  pub parts : List Process
  pub there : slice_get table.outputs.items n ≡ Some output_of
  pub named : slice_get (messages_of table) output_of.message ≡ Some message
  pub below : StandFor table output_of.then.items parts
  pub order : IsReordered parts (settled then)
  pub same : p ≡ output output_of.channel message then

-- a part among them
pub record StandAround (table : Table) (p : Process) (ns : List ℕ) (rest : List Process) : Type 0 where
  pub place : ℕ
  pub number : ℕ
  pub there : slice_get ns place ≡ Some number
  pub one : StandsForOne table number p
  pub others : StandFor table (take place ns ++ drop (place + 1) ns) rest

-- the part at a place, and a part that is put there
pub record StandAt (table : Table) (place n : ℕ) (ns : List ℕ) (ps : List Process) : Type 0 where
  pub part : Process
  pub rest : List Process
  pub taken : Removes part ps rest
  pub one : StandsForOne table n part
  pub others : StandFor table (take place ns ++ drop (place + 1) ns) rest

taken_before : {p : Process} {ls left : List Process} → Removes p ls left → (cs : List Process) → Removes p (ls ++ cs) (left ++ cs)
taken_before here cs = here
taken_before (there t) cs = there (taken_before t cs)

pub reordered_append : (ps qs : List Process) {xs ys : List Process} → IsReordered ps qs → IsReordered xs ys → IsReordered (ps ++ xs) (qs ++ ys)
reordered_append ps qs {xs} {ys} r s = reordered_trans (before_reordered ps s) (swapped ps qs ys r)
  where
    swapped : (ls bs cs : List Process) → IsReordered ls bs → IsReordered (ls ++ cs) (bs ++ cs)
    swapped ls bs cs none_reordered = reordered_refl cs
    swapped ls bs cs (part_reordered {rest = left} t k) = part_reordered (taken_before t cs) (swapped _ left cs k)

dropped : (x : ℕ) (xs : List ℕ) (i : ℕ) → drop (suc i + 1) (x ∷ xs) ≡ drop (i + 1) xs
dropped x xs i = let s : suc i + 1 ≡ suc (i + 1) = omega arith in ap (λ j. drop j (x ∷ xs)) s

-- the parts side by side
abbrev pub side_by_side : List Process → Process
side_by_side [] = nil
side_by_side (p ∷ ps) = parallel p (side_by_side ps)

module _ {table : Table} where
  pub stand_more : {n : ℕ} {p : Process} {ns : List ℕ} {ps : List Process} → StandsForOne table n p → StandFor table ns ps → StandFor table (n ∷ ns) (p ∷ ps)
  stand_more (a_part e m below r none) h = a_part e m below r h

  pub stand_append : {ns ms : List ℕ} {ps qs : List Process} → StandFor table ns ps → StandFor table ms qs → StandFor table (ns ++ ms) (ps ++ qs)
  stand_append no_parts k = k
  stand_append (a_part e m below r h) k = a_part e m below r (stand_append h k)

  stand_first : {n : ℕ} {p : Process} {ns ms : List ℕ} {ps : List Process} → StandsForOne table n p → StandApart table ns ms ps → StandApart table (n ∷ ns) ms (p ∷ ps)
  stand_first {p = p} one a = record { front = p ∷ a.front; back = a.back; same = ap (λ qs. p ∷ qs) a.same; first = stand_more one a.first; second = a.second }

  pub stand_apart : (ns ms : List ℕ) (ps : List Process) → StandFor table (ns ++ ms) ps → StandApart table ns ms ps
  stand_apart [] ms ps h = record { front = []; back = ps; same = refl; first = no_parts; second = h }
  stand_apart (n ∷ ns) ms ps (a_part {ps = rest} e m below r h) = stand_first (a_part e m below r no_parts) (stand_apart ns ms rest h)

  pub stand_cases : {n : ℕ} {ns : List ℕ} {ps : List Process} → StandFor table (n ∷ ns) ps → StandFirst table n ns ps
  stand_cases (a_part e m below r h) = record { part = _; others = _; same = refl; one = a_part e m below r no_parts; rest = h }

  -- the numbers in another order stand for the parts in another order
  drawn_stands :
      {n : ℕ} {p : Process} {ns rest : List ℕ} {ps : List Process} → Draws n ns rest → StandsForOne table n p → StandFor table rest ps
      → (qs : List Process) × StandFor table ns qs × Removes p qs ps
  drawn_stands {p = p} {ps = ps} drawn_here one h = (p ∷ ps, stand_more one h, here)
  drawn_stands (drawn_there d) one (a_part e m below r h) =
      let k = drawn_stands d one h in (_ ∷ k.0, a_part e m below r k.1, there k.2)

  shuffled_stand : {ns ms : List ℕ} {ps : List Process} → IsShuffled ns ms → StandFor table ns ps → (qs : List Process) × StandFor table ms qs × IsReordered ps qs
  shuffled_stand no_numbers no_parts = ([], no_parts, none_reordered)
  shuffled_stand (a_number d s) (a_part e m below r h) =
      let k = shuffled_stand s h in
      let l = drawn_stands d (a_part e m below r no_parts) k.1 in
      (l.0, l.1, part_reordered l.2 k.2)

  pub stand_permuted : (ns ms : List ℕ) (ps : List Process) → IsPermutation ns ms → StandFor table ns ps → (qs : List Process) × StandFor table ms qs × IsReordered ps qs
  stand_permuted ns ms ps h k = shuffled_stand (shuffled ns ms h) k

  pub bag_permuted : (ns ms : List ℕ) (ps : List Process) → IsPermutation ns ms → StandForBag table ns ps → StandForBag table ms ps
  bag_permuted ns ms ps h k =
      let l = stand_permuted ns ms k.0 h k.1 in (l.0, l.1, reordered_trans (reordered_sym l.2) k.2)

  -- the order of the parts matters to none
  pub bag_reordered : (ns : List ℕ) (ps qs : List Process) → StandForBag table ns ps → IsReordered ps qs → StandForBag table ns qs
  bag_reordered ns ps qs h r = (h.0, h.1, reordered_trans h.2 r)

  pub bag_append : (ns ms : List ℕ) (ps qs : List Process) → StandForBag table ns ps → StandForBag table ms qs → StandForBag table (ns ++ ms) (ps ++ qs)
  bag_append ns ms ps qs h k = (h.0 ++ k.0, stand_append h.1 k.1, reordered_append h.0 ps h.2 k.2)

  pub stands_for : {n : ℕ} {p : Process} → StandsForOne table n p → StandsForOutput table n p
  stands_for (a_part {o = o} {u} {q} {qs = qs} e m below r h) =
      record { output_of = o; message = u; then = q; parts = qs; there = e; named = m; below = below; order = r; same = refl }

  around_later : {k : ℕ} {p q : Process} {ns : List ℕ} {rest : List Process} → StandsForOne table k q → StandAround table p ns rest → StandAround table p (k ∷ ns) (q ∷ rest)
  around_later {k} {p} {q} {ns} {rest} one a = record {
    place = suc a.place;
    number = a.number;
    there = a.there;
    one = a.one;
    others = subst (λ (ms : List ℕ). StandFor table (k ∷ (take a.place ns ++ ms)) (q ∷ rest)) (sym (dropped k ns a.place)) (stand_more one a.others);
  }

  pub stand_around : {p : Process} {ns : List ℕ} {ps rest : List Process} → Removes p ps rest → StandFor table ns ps → StandAround table p ns rest
  stand_around here (a_part {n = n} e m below r h) = record { place = 0; number = n; there = refl; one = a_part e m below r no_parts; others = h }
  stand_around (there t) (a_part e m below r h) = around_later (a_part e m below r no_parts) (stand_around t h)

  at_later : {n k place : ℕ} {p : Process} {ns : List ℕ} {ps : List Process} → StandsForOne table k p → StandAt table place n ns ps → StandAt table (suc place) n (k ∷ ns) (p ∷ ps)
  at_later {k = k} {place} {p} {ns} one a = record {
    part = a.part;
    rest = p ∷ a.rest;
    taken = there a.taken;
    one = a.one;
    others = subst (λ (ms : List ℕ). StandFor table (k ∷ (take place ns ++ ms)) (p ∷ a.rest)) (sym (dropped k ns place)) (stand_more one a.others);
  }

  pub stand_at : (ns : List ℕ) (place n : ℕ) (ps : List Process) → slice_get ns place ≡ Some n → StandFor table ns ps → StandAt table place n ns ps
  stand_at [] place n ps e h = absurd (none-some n e)
  stand_at (k ∷ ns) zero n ps e h =
      let f = stand_cases h in
      let s : k ≡ n = cc in
      record {
        part = f.part;
        rest = f.others;
        taken = subst (λ (qs : List Process). Removes f.part qs f.others) (sym f.same) here;
        one = subst (λ (m : ℕ). StandsForOne table m f.part) s f.one;
        others = f.rest;
      }
  stand_at (k ∷ ns) (suc place) n ps e h =
      let f = stand_cases h in
      subst (λ (qs : List Process). StandAt table (suc place) n (k ∷ ns) qs) (sym f.same) (at_later f.one (stand_at ns place n f.others e f.rest))

  pub stand_put :
      (ns : List ℕ) (place n : ℕ) (p : Process) (ps : List Process) → slice_get ns place ≡ Some n → StandsForOne table n p
      → StandFor table (take place ns ++ drop (place + 1) ns) ps → (qs : List Process) × StandFor table ns qs × Removes p qs ps
  stand_put [] place n p ps e one h = absurd (none-some n e)
  stand_put (k ∷ ns) zero n p ps e one h =
      let s : k ≡ n = cc in (p ∷ ps, stand_more (subst (λ (m : ℕ). StandsForOne table m p) (sym s) one) h, here)
  stand_put (k ∷ ns) (suc place) n p ps e one h =
      let f = stand_cases (subst (λ (ms : List ℕ). StandFor table (k ∷ (take place ns ++ ms)) ps) (dropped k ns place) h) in
      let r = stand_put ns place n p f.others e one f.rest in
      (f.part ∷ r.0, stand_more f.one r.1, subst (λ (qs : List Process). Removes p (f.part ∷ r.0) qs) (sym f.same) (there r.2))

  pub settled_beside : {ns : List ℕ} {ps : List Process} → StandFor table ns ps → settled (side_by_side ps) ≡ ps
  settled_beside no_parts = refl
  settled_beside (a_part {o = o} {u} {q} e m below r h) = ap (λ ps. output o.channel u q ∷ ps) (settled_beside h)
