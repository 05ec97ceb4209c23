-- Tables of parts that grow, and what bags stand for in them.
use Rattle.std.proofs.Common.{◌≡◌, ℕ, ◌<◌, ◌+◌, List, [], ◌∷◌, ◌++◌, length, map, get_or, refl, sym, ◌∙◌, ap, subst, inl, inr, arith, append_assoc, append-nil, length-append}
use Rattle.std.specs.Prelude.{◌⊎◌, ◌↔◌, Contains}
use Rattle.std.specs.List.Sorted.{IsPermutation}
use Rattle.std.proofs.lemmas.List.{get_or_append_left, map-append}
use Rattle.std.proofs.lemmas.List.Elements.{Contains-append_cases}
use Rattle.std.proofs.lemmas.List.Sorted.{Contains-permutation, IsPermutation-sym}
use Rattle.dps_bags.specs.Bags.{Draws, drawn_here, drawn_there, AreJoined}
use Rattle.dps_bags.proofs.Holding.{contains_none, contains_first, contains_later}
use Rattle.dps_bags.proofs.Shuffling.{IsShuffled, no_numbers, a_number, shuffled}
use Rattle.dps_process.specs.Process.{Process, nil}
use Rattle.dps_process.specs.Steps.{Removes, here, there, IsReordered, no_parts, a_part}
use Rattle.dps_process.proofs.Bags.{reordered_refl, reordered_trans, reordered_sym, before_reordered}
use Rattle.dps_semantics.specs.Parts.{part_of, parts_of, AreNumbers, AreAllNumbers, IsGrown, OneStandsFor, HoldsInOrder, StandForJust, Both}

pub grown_none : (table : List Process) → IsGrown table table
grown_none table = record { more = []; grown = sym (append-nil table); once = λ o. o }

pub grown_more : (old mid new : List Process) → IsGrown old mid → IsGrown mid new → IsGrown old new
grown_more old mid new h k = record {
  more = h.more ++ k.more;
  grown = k.grown ∙ (ap (λ ps. ps ++ k.more) h.grown ∙ append_assoc old h.more k.more);
  once = λ o. k.once (h.once o);
}

pub number_stays : (old new : List Process) (n : ℕ) → IsGrown old new → n < length old → n < length new
number_stays old new n g h =
    let longer : length new ≡ length old + length g.more = ap length g.grown ∙ length-append old g.more in omega (arith, h, longer)

pub part_stays : (old new : List Process) (n : ℕ) → IsGrown old new → n < length old → part_of new n ≡ part_of old n
part_stays old new n g h = ap (λ t. get_or t n nil) g.grown ∙ get_or_append_left old g.more nil n h

pub numbers_stay : (old new : List Process) (ns : List ℕ) → IsGrown old new → AreNumbers old ns → AreNumbers new ns
numbers_stay old new ns g h n c = number_stays old new n g (h n c)

pub parts_stay : (old new : List Process) (ns : List ℕ) → IsGrown old new → AreNumbers old ns → parts_of new ns ≡ parts_of old ns
parts_stay old new [] g h = refl
parts_stay old new (n ∷ ns) g h =
    let first = part_stays old new n g (h n (contains_first n ns)) in
    let rest = parts_stay old new ns g (λ m c. h m (contains_later n ns m c)) in
    ap (λ p. p ∷ parts_of new ns) first ∙ ap (λ ps. part_of old n ∷ ps) rest

pub all_numbers_stay : (old new : List Process) (bags : List (List ℕ)) → IsGrown old new → AreAllNumbers old bags → AreAllNumbers new bags
all_numbers_stay old new bags g h bag c = numbers_stay old new bag g (h bag c)

-- what stands for parts still does in a table that has grown, and in more bags
pub one_stands : (old new : List Process) (bags more : List (List ℕ)) (ps : List Process)
    → IsGrown old new → AreAllNumbers old bags → ((b : List ℕ) → Contains bags b → Contains more b) → OneStandsFor old bags ps → OneStandsFor new more ps
one_stands old new bags more ps g n h s =
    (s.0, h s.0 s.1, subst (λ (xs : List Process). IsReordered xs ps) (sym (parts_stay old new s.0 g (n s.0 s.1))) s.2)

pub one_reordered : (table : List Process) (bags : List (List ℕ)) (ps qs : List Process) → IsReordered ps qs → OneStandsFor table bags ps → OneStandsFor table bags qs
one_reordered table bags ps qs r s = (s.0, s.1, reordered_trans s.2 r)

drawn_removes : (f : ℕ → Process) {n : ℕ} {ns rest : List ℕ} → Draws n ns rest → Removes (f n) (map f ns) (map f rest)
drawn_removes f drawn_here = here
drawn_removes f (drawn_there d) = there (drawn_removes f d)

pub draws_remove : (table : List Process) {n : ℕ} {ns rest : List ℕ} → Draws n ns rest → Removes (part_of table n) (parts_of table ns) (parts_of table rest)
draws_remove table d = drawn_removes (part_of table) d

shuffled_reordered : (f : ℕ → Process) {ns ms : List ℕ} → IsShuffled ns ms → IsReordered (map f ns) (map f ms)
shuffled_reordered f no_numbers = no_parts
shuffled_reordered f (a_number d s) = a_part (drawn_removes f d) (shuffled_reordered f s)

pub permuted : (table : List Process) (ns ms : List ℕ) → IsPermutation ns ms → IsReordered (parts_of table ns) (parts_of table ms)
permuted table ns ms h = shuffled_reordered (part_of table) (shuffled ns ms h)

removes_before : {p : Process} {ps rest : List Process} (qs : List Process) → Removes p ps rest → Removes p (ps ++ qs) (rest ++ qs)
removes_before qs here = here
removes_before qs (there r) = there (removes_before qs r)

after_reordered : (qs : List Process) {ps others : List Process} → IsReordered ps others → IsReordered (ps ++ qs) (others ++ qs)
after_reordered qs no_parts = reordered_refl qs
after_reordered qs (a_part r s) = a_part (removes_before qs r) (after_reordered qs s)

pub both_reordered : {ps qs others more : List Process} → IsReordered ps others → IsReordered qs more → IsReordered (ps ++ qs) (others ++ more)
both_reordered {qs = qs} {others = others} r s = reordered_trans (after_reordered qs r) (before_reordered others s)

-- the parts of a bag are those of the two that it joins
joined_parts : (table : List Process) (one other bag : List ℕ) → IsPermutation (one ++ other) bag → IsReordered (parts_of table bag) (parts_of table one ++ parts_of table other)
joined_parts table one other bag h =
    subst (λ (ps : List Process). IsReordered (parts_of table bag) ps) (map-append (part_of table) one other) (reordered_sym (permuted table (one ++ other) bag h))

pub joined_numbers : (table : List Process) (one other bag : List ℕ) → IsPermutation (one ++ other) bag → AreNumbers table one → AreNumbers table other → AreNumbers table bag
joined_numbers table one other bag p h k n c =
    elim (Contains-append_cases one other n (Contains-permutation bag (one ++ other) n (IsPermutation-sym (one ++ other) bag p) c)) [ inl d ↦ h n d | inr d ↦ k n d ]

pub just_stays : (P : List Process → Type 0) (old mid new : List Process) (bags : List (List ℕ)) → StandForJust P old mid bags → IsGrown mid new → StandForJust P old new bags
just_stays P old mid new bags j g = record {
  grown = grown_more old mid new j.grown g;
  numbers = all_numbers_stay mid new bags g j.numbers;
  complete = λ ps h. one_stands mid new bags bags ps g j.numbers (λ b c. c) (j.complete ps h);
  sound = λ bag c. subst (HoldsInOrder P) (sym (parts_stay mid new bag g (j.numbers bag c))) (j.sound bag c);
}

pub just_as : (P Q : List Process → Type 0) (old new : List Process) (bags : List (List ℕ))
    → ((ps : List Process) → P ps → Q ps) → ((ps : List Process) → Q ps → P ps) → StandForJust P old new bags → StandForJust Q old new bags
just_as P Q old new bags to from j = record {
  grown = j.grown;
  numbers = j.numbers;
  complete = λ ps q. j.complete ps (from ps q);
  sound = λ bag c. (let s = j.sound bag c in (s.0, to s.0 s.1, s.2));
}

pub just_from : (P : List Process → Type 0) (oldest old new : List Process) (bags : List (List ℕ)) → IsGrown oldest old → StandForJust P old new bags → StandForJust P oldest new bags
just_from P oldest old new bags g j = record { grown = grown_more oldest old new g j.grown; numbers = j.numbers; complete = j.complete; sound = j.sound }

-- bags that join two lists of bags, each with a meaning
pub just_joined : (P Q : List Process → Type 0) (old mid new : List Process) (ones others bags : List (List ℕ))
    → StandForJust P old mid ones → StandForJust Q mid new others → AreJoined ones others bags → StandForJust (Both P Q) old new bags
just_joined P Q old mid new ones others bags one other j =
    let first = just_stays P old mid new ones one other.grown in record {
      grown = first.grown;
      numbers = λ bag c. (let s = j.sound bag c in joined_numbers new s.0 s.1 bag s.4 (first.numbers s.0 s.2) (other.numbers s.1 s.3));
      complete = λ rs b. (
          let l = first.complete b.0 b.2 in
          let r = other.complete b.1 b.3 in
          let s = j.complete l.0 r.0 l.1 r.1 in
          (s.0, s.1, subst (λ (ps : List Process). IsReordered (parts_of new s.0) ps) (sym b.4) (reordered_trans (joined_parts new l.0 r.0 s.0 s.2) (both_reordered l.2 r.2)))
          );
      sound = λ bag c. (
          let s = j.sound bag c in
          let l = first.sound s.0 s.2 in
          let r = other.sound s.1 s.3 in
          (l.0 ++ r.0, (l.0, r.0, l.1, r.1, refl), reordered_trans (both_reordered l.2 r.2) (reordered_sym (joined_parts new s.0 s.1 bag s.4)))
          );
    }

-- bags that stand for either
pub just_either : (P Q : List Process → Type 0) (old mid new : List Process) (ones others bags : List (List ℕ))
    → StandForJust P old mid ones → StandForJust Q mid new others → ((b : List ℕ) → Contains bags b ↔ (Contains ones b ⊎ Contains others b)) → StandForJust (λ ps. P ps ⊎ Q ps) old new bags
just_either P Q old mid new ones others bags one other j =
    let first = just_stays P old mid new ones one other.grown in record {
      grown = first.grown;
      numbers = λ bag c. elim ((j bag).0 c) [ inl d ↦ first.numbers bag d | inr d ↦ other.numbers bag d ];
      complete = λ ps. elim [
        | inl h ↦ (let s = first.complete ps h in (s.0, (j s.0).1 (inl s.1), s.2))
        | inr h ↦ (let s = other.complete ps h in (s.0, (j s.0).1 (inr s.1), s.2))
      ];
      sound = λ bag c. elim ((j bag).0 c) [
        | inl d ↦ (let s = first.sound bag d in (s.0, inl s.1, s.2))
        | inr d ↦ (let s = other.sound bag d in (s.0, inr s.1, s.2))
      ];
    }

-- the one bag
pub just_one : (old new : List Process) (bag : List ℕ) (bags : List (List ℕ))
    → IsGrown old new → AreNumbers new bag → ((b : List ℕ) → Contains bags b ↔ (b ≡ bag)) → StandForJust (λ ps. ps ≡ parts_of new bag) old new bags
just_one old new bag bags g n j = record {
  grown = g;
  numbers = λ b c. subst (AreNumbers new) (sym ((j b).0 c)) n;
  complete = λ ps e. (bag, (j bag).1 refl, subst (λ (qs : List Process). IsReordered (parts_of new bag) qs) (sym e) (reordered_refl (parts_of new bag)));
  sound = λ b c. (parts_of new bag, refl, subst (λ (ns : List ℕ). IsReordered (parts_of new bag) (parts_of new ns)) (sym ((j b).0 c)) (reordered_refl (parts_of new bag)));
}

-- no bag
pub just_none : (P : List Process → Type 0) (table : List Process) → ((ps : List Process) → ¬ P ps) → StandForJust P table table []
just_none P table h = record {
  grown = grown_none table;
  numbers = λ b c. absurd (contains_none b c);
  complete = λ ps p. absurd (h ps p);
  sound = λ b c. absurd (contains_none b c);
}

pub no_numbers_there : (table : List Process) → AreNumbers table []
no_numbers_there table n c = absurd (contains_none n c)

-- what bags stand for, seen from the table as it is
pub just_here : (P : List Process → Type 0) (old new : List Process) (bags : List (List ℕ)) → StandForJust P old new bags → StandForJust P new new bags
just_here P old new bags j = record { grown = grown_none new; numbers = j.numbers; complete = j.complete; sound = j.sound }
