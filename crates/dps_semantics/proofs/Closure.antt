-- All bags to which communications lead, found one after the other.
use Rattle.std.proofs.Common.{◌≡◌, ℕ, ◌<◌, ◌≤◌, ◌+◌, List, [], length, get_or, sym, ◌∙◌, ap, subst, inl, inr, arith}
use Rattle.std.specs.Prelude.{◌⊎◌, ◌↔◌, Contains}
use Rattle.std.proofs.lemmas.List.{get_or_append_left}
use Rattle.std.proofs.lemmas.List.Elements.{Contains-get_or}
use Rattle.dps_signature.specs.Signature.{Signature}
use Rattle.dps_theory.specs.Theory.{Theory}
use Rattle.dps_bags.specs.Bags.{IsLonger}
use Rattle.dps_bags.proofs.Holding.{has_place}
use Rattle.dps_bags.proofs.Joining.{below_next}
use Rattle.dps_process.specs.Process.{Process}
use Rattle.dps_process.specs.Models.{Model}
use Rattle.dps_process.proofs.Bags.{reordered_refl}
use Rattle.dps_semantics.specs.Parts.{parts_of, AreAllNumbers, IsGrown, OneStandsFor, HoldsInOrder, StandForJust}
use Rattle.dps_semantics.specs.Coming.{ComesByMeeting, ComesByMeetings, no_meeting, a_meeting}
use Rattle.dps_semantics.specs.Meeting.{LeadsOn}
use Rattle.dps_semantics.proofs.Tables.{grown_none, grown_more, parts_stay, all_numbers_stay, one_stands, one_reordered}
use Rattle.dps_semantics.proofs.Meetings.{meeting_from}
use Rattle.dps_semantics.proofs.Finding.{meetings_before, meetings_trans}

module _ (model : Model) (signature : Signature) (theory : Theory) where
  abbrev Next : List Process → List Process → Type 0
  Next ps qs = ComesByMeeting model signature theory ps qs

  -- P was found, and all to which one communication leads from the first so many
  pub record ReachesBelow (P : List Process → Type 0) (i : ℕ) (old new : List Process) (found : List (List ℕ)) : Type 0 where
    pub grown : IsGrown old new
    pub numbers : AreAllNumbers new found
    pub start : (ps : List Process) → P ps → OneStandsFor new found ps
    pub sound : (bag : List ℕ) → Contains found bag → HoldsInOrder (LeadsOn model signature theory P) (parts_of new bag)
    pub closed : (j : ℕ) → j < i → (qs : List Process) → Next (parts_of new (get_or found j [])) qs → OneStandsFor new found qs

  leads_nowhere : (P : List Process → Type 0) (ps : List Process) → P ps → LeadsOn model signature theory P ps
  leads_nowhere P ps p = (ps, p, no_meeting (reordered_refl ps))

  pub reach_none : (table : List Process) (bags : List (List ℕ)) → AreAllNumbers table bags → ReachesBelow (OneStandsFor table bags) 0 table table bags
  reach_none table bags n = record {
    grown = grown_none table;
    numbers = n;
    start = λ ps s. s;
    sound = λ bag c. (let ps : List Process = parts_of table bag in (ps, leads_nowhere (OneStandsFor table bags) ps (bag, c, reordered_refl ps), reordered_refl ps));
    closed = λ j h. absurd (omega (arith, h));
  }

  leads_further : (P : List Process → Type 0) (ps qs : List Process) → HoldsInOrder (LeadsOn model signature theory P) ps → Next ps qs → LeadsOn model signature theory P qs
  leads_further P ps qs (rs, (bs, p, k), r) m =
      (bs, p, meetings_trans model signature theory k (meetings_before model signature theory r (a_meeting m (no_meeting (reordered_refl qs)))))

  pub reach_more : (P : List Process → Type 0) (i : ℕ) (old mid new : List Process) (found more all : List (List ℕ))
      → i < length found
      → ReachesBelow P i old mid found
      → StandForJust (Next (parts_of mid (get_or found i []))) mid new more
      → ((b : List ℕ) → Contains all b ↔ (Contains found b ⊎ Contains more b))
      → IsLonger found all
      → ReachesBelow P (i + 1) old new all
  reach_more P i old mid new found more all h k s j l =
      let left : (x : List ℕ) → Contains found x → Contains all x = λ x c. (j x).1 (inl c) in
      let right : (x : List ℕ) → Contains more x → Contains all x = λ x c. (j x).1 (inr c) in
      let here : Contains found (get_or found i []) = Contains-get_or found i [] h in
      let numbers : AreAllNumbers new found = all_numbers_stay mid new found s.grown k.numbers in
      let same : (m : ℕ) → m < length found → parts_of new (get_or all m []) ≡ parts_of mid (get_or found m []) =
      λ m n. ap (parts_of new) (ap (λ bs. get_or bs m []) l.1 ∙ get_or_append_left found l.0 [] m n) ∙ parts_stay mid new (get_or found m []) s.grown
      (k.numbers (get_or found m []) (Contains-get_or found m [] n)) in
      record {
        grown = grown_more old mid new k.grown s.grown;
        numbers = λ bag c. elim ((j bag).0 c) [ inl d ↦ numbers bag d | inr d ↦ s.numbers bag d ];
        start = λ ps p. one_stands mid new found all ps s.grown k.numbers left (k.start ps p);
        sound = λ bag c. elim ((j bag).0 c) [
          | inl d ↦ subst (HoldsInOrder (LeadsOn model signature theory P)) (sym (parts_stay mid new bag s.grown (k.numbers bag d))) (k.sound bag d)
          | inr d ↦ (
              let n = s.sound bag d in
              (n.0, leads_further P (parts_of mid (get_or found i [])) n.0 (k.sound (get_or found i []) here) n.1, n.2)
              )
        ];
        closed = below_next (λ m. (qs : List Process) → Next (parts_of new (get_or all m [])) qs → OneStandsFor new all qs) i
            (λ m n qs q. one_stands mid new found all qs s.grown k.numbers left (k.closed m n qs (subst (λ (ps : List Process). Next ps qs) (same m (omega (arith, n, h))) q)))
            (λ qs q. one_stands new new more all qs (grown_none new) s.numbers right (s.complete qs (subst (λ (ps : List Process). Next ps qs) (same i h) q)));
      }

  module _ (new : List Process) (found : List (List ℕ)) (closed : (j : ℕ) → j < length found → (qs : List Process) → Next (parts_of new (get_or found j [])) qs → OneStandsFor new found qs) where
    one_further : (ps qs : List Process) → OneStandsFor new found ps → Next ps qs → OneStandsFor new found qs
    one_further ps qs (bag, c, r) m =
        let p = has_place found [] bag c in
        let f = meeting_from model signature theory (parts_of new bag) ps qs r m in
        one_reordered new found f.0 qs f.2 (closed p.0 p.1 f.0 (subst (λ (b : List ℕ). Next (parts_of new b) f.0) (sym p.2) f.1))

    all_further : {ps qs : List Process} → OneStandsFor new found ps → ComesByMeetings model signature theory ps qs → OneStandsFor new found qs
    all_further {ps} {qs} s (no_meeting r) = one_reordered new found ps qs r s
    all_further {ps} s (a_meeting {qs = qs} m k) = all_further (one_further ps qs s m) k

  pub reach_all : (P : List Process → Type 0) (i : ℕ) (old new : List Process) (found : List (List ℕ))
      → length found ≤ i → ReachesBelow P i old new found → StandForJust (LeadsOn model signature theory P) old new found
  reach_all P i old new found h k = record {
    grown = k.grown;
    numbers = k.numbers;
    complete = λ es l. all_further new found (λ j n. k.closed j (omega (arith, n, h))) (k.start l.0 l.1) l.2;
    sound = k.sound;
  }
