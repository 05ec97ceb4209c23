-- Those to which it leads that one of several parts takes a message.
use Rattle.std.proofs.Common.{◌≡◌, ℕ, ◌<◌, ◌≤◌, ◌+◌, List, length, get_or, sym, ◌∙◌, ap, subst, arith}
use Rattle.std.specs.Prelude.{◌⊎◌, ◌↔◌, Contains}
use Rattle.dps_terms.specs.Tree.{Tree}
use Rattle.dps_theory.specs.Theory.{Theory}
use Rattle.dps_bags.specs.Bags.{AreJoined, IsRepeated}
use Rattle.dps_process.specs.Process.{Process, nil}
use Rattle.dps_semantics.specs.Parts.{left_at, parts_of, AreNumbers, StandForJust, Both}
use Rattle.dps_semantics.specs.Coming.{ComesTo}
use Rattle.dps_semantics.specs.Meeting.{Takes, TakesAt, IsTaken}
use Rattle.dps_semantics.proofs.Tables.{grown_none, parts_stay, numbers_stay, just_as, just_joined, just_one}
use Rattle.dps_semantics.proofs.Places.{left_parts, left_numbers, part_count, repeated_at}
use Rattle.dps_semantics.proofs.Collecting.{Collects, collect_more, collect_skip, collect_all}
use Rattle.dps_semantics.proofs.Meetings.{takes_as}

module _ (theory : Theory) (d : ℕ) (t : Tree) (rest : Process) where
  taken_from : (then : Process) (os : List Process) (i : ℕ) (qs : List Process) → Takes (get_or os i nil) d t then → TakesAt theory d t rest os i qs
      → Both (ComesTo theory rest) (Both (ComesTo theory then) (λ ps. ps ≡ left_at i os)) qs
  taken_from then os i qs h (p, k, b) =
      subst (λ (r : Process). Both (ComesTo theory rest) (Both (ComesTo theory r) (λ ps. ps ≡ left_at i os)) qs) (takes_as (get_or os i nil) d t p then k h) b

  -- the sender's rest, the receiver's and the others
  pub reception_stands : (others : List ℕ) (i : ℕ) (old new : List Process) (then : Process) (ones theirs rests both bags : List (List ℕ))
      → StandForJust (ComesTo theory rest) old old ones
      → AreNumbers old others
      → i < length others
      → Takes (get_or (parts_of old others) i nil) d t then
      → StandForJust (ComesTo theory then) old new theirs
      → ((b : List ℕ) → Contains rests b ↔ (b ≡ left_at i others))
      → AreJoined theirs rests both
      → AreJoined ones both bags
      → StandForJust (TakesAt theory d t rest (parts_of old others) i) old new bags
  reception_stands others i old new then ones theirs rests both bags one n h takes their r j k =
      let os : List Process = parts_of old others in
      let left : AreNumbers new (left_at i others) = numbers_stay old new (left_at i others) their.grown (left_numbers old others i h n) in
      let same : parts_of new (left_at i others) ≡ left_at i os = left_parts new i others ∙ ap (left_at i) (parts_stay old new others their.grown n) in
      let the_rest : StandForJust (λ ps. ps ≡ left_at i os) new new rests =
      just_as (λ ps. ps ≡ parts_of new (left_at i others)) (λ ps. ps ≡ left_at i os) new new rests (λ ps e. e ∙ same) (λ ps e. e ∙ sym same)
      (just_one new new (left_at i others) rests (grown_none new) left r) in
      let second = just_joined (ComesTo theory then) (λ ps. ps ≡ left_at i os) old new new theirs rests both their the_rest j in
      let all = just_joined (ComesTo theory rest) (Both (ComesTo theory then) (λ ps. ps ≡ left_at i os)) old old new ones both bags one second k in
      just_as (Both (ComesTo theory rest) (Both (ComesTo theory then) (λ ps. ps ≡ left_at i os))) (TakesAt theory d t rest os i) old new bags
      (λ ps b. (then, takes, b)) (λ ps b. taken_from then os i ps takes b) all

  module _ (others : List ℕ) (old : List Process) (numbers : AreNumbers old others) where
    abbrev pub Receives : ℕ → List Process → List (List ℕ) → Type 0
    Receives i new found = Collects (TakesAt theory d t rest (parts_of old others)) (IsTaken theory d t rest (parts_of old others)) i old new found

    pub reception_more : (i : ℕ) (mid new : List Process) (found more all : List (List ℕ))
        → i < length others
        → Receives i mid found
        → StandForJust (TakesAt theory d t rest (parts_of mid others) i) mid new more
        → ((b : List ℕ) → Contains all b ↔ (Contains found b ⊎ Contains more b))
        → Receives (i + 1) new all
    reception_more i mid new found more all h k s j =
        collect_more (TakesAt theory d t rest (parts_of old others)) (IsTaken theory d t rest (parts_of old others)) i old mid new found more all
        (λ ps q. (i, omega (arith, h, part_count old others), q)) k
        (subst (λ (os : List Process). StandForJust (TakesAt theory d t rest os i) mid new more) (parts_stay old mid others k.grown numbers) s) j

    pub reception_skip : (i : ℕ) (new : List Process) (found : List (List ℕ)) → i < length others → IsRepeated others i → Receives i new found → Receives (i + 1) new found
    reception_skip i new found h r k =
        let os : List Process = parts_of old others in
        let same = repeated_at old others i h r in
        collect_skip (TakesAt theory d t rest os) (IsTaken theory d t rest os) i old new found
        (λ ps q. (
          same.0,
          same.1,
          (
            q.0,
            subst (λ (p : Process). Takes p d t q.0) same.2 q.1,
            subst (λ (ls : List Process). Both (ComesTo theory rest) (Both (ComesTo theory q.0) (λ xs. xs ≡ ls)) ps) same.3 q.2,
          ),
        )) k

    pub reception_all : (i : ℕ) (new : List Process) (found : List (List ℕ)) → length others ≤ i → Receives i new found → StandForJust (IsTaken theory d t rest (parts_of old others)) old new found
    reception_all i new found h k =
        collect_all (TakesAt theory d t rest (parts_of old others)) (IsTaken theory d t rest (parts_of old others)) i (length (parts_of old others)) old new found (λ ps p. p)
        (omega (arith, h, part_count old others)) k
