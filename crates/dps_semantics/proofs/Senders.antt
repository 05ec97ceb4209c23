-- Those to which communications lead that some part begins.
use Rattle.std.proofs.Common.{◌≡◌, ℕ, ◌<◌, ◌≤◌, ◌+◌, List, length, get_or, ◌∙◌, ap, subst, arith}
use Rattle.std.specs.Prelude.{◌⊎◌, ◌↔◌, Contains}
use Rattle.dps_terms.specs.Tree.{Tree}
use Rattle.dps_signature.specs.Signature.{Signature}
use Rattle.dps_theory.specs.Theory.{Theory, IsAccepted}
use Rattle.dps_bags.specs.Bags.{IsRepeated}
use Rattle.dps_process.specs.Process.{Process, nil}
use Rattle.dps_process.specs.Models.{Model}
use Rattle.dps_semantics.specs.Parts.{left_at, parts_of, AreNumbers, IsGrown, StandForJust}
use Rattle.dps_semantics.specs.Coming.{ComesByMeeting}
use Rattle.dps_semantics.specs.Meeting.{Sends, IsTaken, MeetsAt}
use Rattle.dps_semantics.proofs.Tables.{parts_stay, just_as, just_from}
use Rattle.dps_semantics.proofs.Places.{left_parts, part_count, repeated_at}
use Rattle.dps_semantics.proofs.Collecting.{Collects, collect_more, collect_skip, collect_all}
use Rattle.dps_semantics.proofs.Meetings.{meets_as, meets_comes, comes_meets}

module _ (model : Model) (signature : Signature) (theory : Theory) where
  pub meeting_stands : (bag others : List ℕ) (i d : ℕ) (t : Tree) (rest : Process) (old mid new : List Process) (bags : List (List ℕ))
      → AreNumbers old bag
      → IsAccepted theory
      → Sends model signature theory (get_or (parts_of old bag) i nil) d t rest
      → IsGrown old mid
      → others ≡ left_at i bag
      → StandForJust (IsTaken theory d t rest (parts_of mid others)) mid new bags
      → StandForJust (MeetsAt model signature theory (parts_of old bag) i) old new bags
  meeting_stands bag others i d t rest old mid new bags n accepted sends g e h =
      let ps : List Process = parts_of old bag in
      let same : parts_of mid others ≡ left_at i ps = ap (parts_of mid) e ∙ (left_parts mid i bag ∙ ap (left_at i) (parts_stay old mid bag g n)) in
      let there : StandForJust (IsTaken theory d t rest (left_at i ps)) mid new bags = subst (λ (os : List Process). StandForJust (IsTaken theory d t rest os) mid new bags) same h in
      just_as (IsTaken theory d t rest (left_at i ps)) (MeetsAt model signature theory ps i) old new bags
      (λ qs k. (d, t, rest, sends, k)) (λ qs k. meets_as model signature theory ps i d t rest qs accepted sends k)
      (just_from (IsTaken theory d t rest (left_at i ps)) old mid new bags g there)

  module _ (bag : List ℕ) (old : List Process) (numbers : AreNumbers old bag) where
    abbrev pub Begins : ℕ → List Process → List (List ℕ) → Type 0
    Begins i new found = Collects (MeetsAt model signature theory (parts_of old bag)) (ComesByMeeting model signature theory (parts_of old bag)) i old new found

    pub sender_more : (i : ℕ) (mid new : List Process) (found more all : List (List ℕ))
        → i < length bag
        → Begins i mid found
        → StandForJust (MeetsAt model signature theory (parts_of mid bag) i) mid new more
        → ((b : List ℕ) → Contains all b ↔ (Contains found b ⊎ Contains more b))
        → Begins (i + 1) new all
    sender_more i mid new found more all h k s j =
        collect_more (MeetsAt model signature theory (parts_of old bag)) (ComesByMeeting model signature theory (parts_of old bag)) i old mid new found more all
        (λ qs m. meets_comes model signature theory (parts_of old bag) i qs (omega (arith, h, part_count old bag)) m) k
        (subst (λ (ps : List Process). StandForJust (MeetsAt model signature theory ps i) mid new more) (parts_stay old mid bag k.grown numbers) s) j

    pub sender_skip : (i : ℕ) (new : List Process) (found : List (List ℕ)) → i < length bag → IsRepeated bag i → Begins i new found → Begins (i + 1) new found
    sender_skip i new found h r k =
        let ps : List Process = parts_of old bag in
        let same = repeated_at old bag i h r in
        collect_skip (MeetsAt model signature theory ps) (ComesByMeeting model signature theory ps) i old new found
        (λ qs m. (
          same.0,
          same.1,
          (
            m.0,
            m.1,
            m.2,
            subst (λ (p : Process). Sends model signature theory p m.0 m.1 m.2) same.2 m.3,
            subst (λ (ls : List Process). IsTaken theory m.0 m.1 m.2 ls qs) same.3 m.4,
          ),
        )) k

    pub sender_all : (i : ℕ) (new : List Process) (found : List (List ℕ)) → length bag ≤ i → Begins i new found → StandForJust (ComesByMeeting model signature theory (parts_of old bag)) old new found
    sender_all i new found h k =
        collect_all (MeetsAt model signature theory (parts_of old bag)) (ComesByMeeting model signature theory (parts_of old bag)) i (length (parts_of old bag)) old new found
        (comes_meets model signature theory (parts_of old bag)) (omega (arith, h, part_count old bag)) k
