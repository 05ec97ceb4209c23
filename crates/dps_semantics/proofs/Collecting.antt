-- Bags that are collected in a loop, while the table of parts grows.
use Rattle.std.proofs.Common.{ℕ, ◌<◌, ◌≤◌, ◌+◌, List, sym, subst, inl, inr, arith}
use Rattle.std.specs.Prelude.{◌⊎◌, ◌↔◌, Contains}
use Rattle.dps_bags.proofs.Joining.{below_next}
use Rattle.dps_process.specs.Process.{Process}
use Rattle.dps_semantics.specs.Parts.{parts_of, AreAllNumbers, IsGrown, OneStandsFor, HoldsInOrder, StandForJust}
use Rattle.dps_semantics.proofs.Tables.{grown_none, grown_more, one_stands, all_numbers_stay, parts_stay}

-- Each thing of Q at the first so many places was found, and nothing else than P.
pub record Collects (Q : ℕ → List Process → Type 0) (P : List Process → Type 0) (i : ℕ) (old new : List Process) (found : List (List ℕ)) : Type 0 where
  pub grown : IsGrown old new
  pub numbers : AreAllNumbers new found
  pub complete : (j : ℕ) → j < i → (ps : List Process) → Q j ps → OneStandsFor new found ps
  pub sound : (bag : List ℕ) → Contains found bag → HoldsInOrder P (parts_of new bag)

module _ (Q : ℕ → List Process → Type 0) (P : List Process → Type 0) where
  collect_stays : (i : ℕ) (old mid new : List Process) (found : List (List ℕ)) → Collects Q P i old mid found → IsGrown mid new → Collects Q P i old new found
  collect_stays i old mid new found k g = record {
    grown = grown_more old mid new k.grown g;
    numbers = all_numbers_stay mid new found g k.numbers;
    complete = λ j h ps q. one_stands mid new found found ps g k.numbers (λ b c. c) (k.complete j h ps q);
    sound = λ bag c. subst (HoldsInOrder P) (sym (parts_stay mid new bag g (k.numbers bag c))) (k.sound bag c);
  }

  pub collect_more : (i : ℕ) (old mid new : List Process) (found more all : List (List ℕ))
      → ((ps : List Process) → Q i ps → P ps)
      → Collects Q P i old mid found
      → StandForJust (Q i) mid new more
      → ((b : List ℕ) → Contains all b ↔ (Contains found b ⊎ Contains more b))
      → Collects Q P (i + 1) old new all
  collect_more i old mid new found more all h before k j =
      let b = collect_stays i old mid new found before k.grown in
      let left : (x : List ℕ) → Contains found x → Contains all x = λ x c. (j x).1 (inl c) in
      let right : (x : List ℕ) → Contains more x → Contains all x = λ x c. (j x).1 (inr c) in
      record {
        grown = b.grown;
        numbers = λ bag c. elim ((j bag).0 c) [ inl d ↦ b.numbers bag d | inr d ↦ k.numbers bag d ];
        complete = below_next (λ m. (ps : List Process) → Q m ps → OneStandsFor new all ps) i
            (λ m l ps q. one_stands new new found all ps (grown_none new) b.numbers left (b.complete m l ps q))
            (λ ps q. one_stands new new more all ps (grown_none new) k.numbers right (k.complete ps q));
        sound = λ bag c. elim ((j bag).0 c) [
          | inl d ↦ b.sound bag d
          | inr d ↦ (let s = k.sound bag d in (s.0, h s.0 s.1, s.2))
        ];
      }

  -- what is found at this place was found before
  pub collect_skip : (i : ℕ) (old new : List Process) (found : List (List ℕ))
      → ((ps : List Process) → Q i ps → (j : ℕ) × (j < i) × Q j ps)
      → Collects Q P i old new found
      → Collects Q P (i + 1) old new found
  collect_skip i old new found h k = record {
    grown = k.grown;
    numbers = k.numbers;
    complete = below_next (λ m. (ps : List Process) → Q m ps → OneStandsFor new found ps) i k.complete (λ ps q. (let e = h ps q in k.complete e.0 e.1 ps e.2));
    sound = k.sound;
  }

  pub collect_all : (i n : ℕ) (old new : List Process) (found : List (List ℕ))
      → ((ps : List Process) → P ps → (j : ℕ) × (j < n) × Q j ps)
      → n ≤ i
      → Collects Q P i old new found
      → StandForJust P old new found
  collect_all i n old new found h l k = record {
    grown = k.grown;
    numbers = k.numbers;
    complete = λ ps p. (let e = h ps p in k.complete e.0 (omega (arith, e.1, l)) ps e.2);
    sound = k.sound;
  }
