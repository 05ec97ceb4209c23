-- Pairs of ends and their partners.
use Rattle.std.proofs.Common.{◌≡◌, ℕ, zero, suc, ◌+◌, ◌<◌, ◌≤◌, List, [], ◌∷◌, ◌++◌, length, get_or, refl, sym, ◌∙◌, ap, subst, inl, inr, arith, length-append}
use Rattle.std.specs.Prelude.{◌⊎◌, Contains}
use Rattle.std.proofs.Math.ListN.{get_or-append}
use Rattle.std.proofs.lemmas.List.{get_or_default}
use Rattle.std.proofs.Math.Seq.{get_or-append_seam}
use Rattle.std.proofs.lemmas.List.Elements.{Contains-append_left, Contains-push, Contains-push_cases, Contains-get_or}
use Rattle.dps_terms.specs.Tree.{Tree}
use Rattle.dps_theory.specs.Theory.{Theory}
use Rattle.dps_process.specs.Steps.{Config}
use Rattle.dps_semantics.specs.Once.{config_at}
use Rattle.dps_static.specs.declared.Test.{Test}
use Rattle.dps_replay.specs.Matching.{frame_at, AreAlike, TellApart, HavePartners, AreWithin, pair_at, ArePaired, ArePairs}

same_or_later : (from i : ℕ) → from ≤ i → (from ≡ i) ⊎ (from + 1 ≤ i)
same_or_later zero zero h = inl refl
same_or_later zero (suc i) h = inr (omega arith)
same_or_later (suc from) zero h = absurd (omega (arith, h))
same_or_later (suc from) (suc i) h = elim (same_or_later from i (omega (arith, h))) [ inl e ↦ inl (ap (λ (n : ℕ). suc n) e) | inr k ↦ inr (omega (arith, k)) ]

module _ (ends others : List Config) (partners : List ℕ) where
  pub no_pairs : ArePaired ends others partners (length ends) []
  no_pairs = record {
    sound = λ pair k. absurd (omega (arith, k.1));
    complete = λ i l b. absurd (omega (arith, l, b));
  }

  pub more_pairs : (from : ℕ) (pairs : List (Config × Config)) → ArePaired ends others partners (from + 1) pairs → from < length ends
      → ArePaired ends others partners from (pairs ++ pair_at ends others partners from ∷ [])
  more_pairs from pairs h l = record {
    sound = λ pair k. elim (Contains-push_cases pairs (pair_at ends others partners from) pair k) [ inl b ↦ h.sound pair b | inr e ↦ (from, l, e) ];
    complete = λ i m b. elim (same_or_later from i m) [
      | inl e ↦ subst (λ (n : ℕ). Contains (pairs ++ pair_at ends others partners from ∷ []) (pair_at ends others partners n)) e (Contains-push pairs (pair_at ends others partners from))
      | inr k ↦ Contains-append_left pairs (pair_at ends others partners from ∷ []) (pair_at ends others partners i) (h.complete i k b)
    ];
  }

  -- the first so many ends are left, and the others stand in pairs
  pub record IsLeftPaired (left : List Config) (pairs : List (Config × Config)) : Type 0 where
    pub short : length left ≤ length ends
    pub same : (i : ℕ) → i < length left → config_at left i ≡ config_at ends i
    pub paired : ArePaired ends others partners (length left) pairs

  pub all_left : IsLeftPaired ends []
  all_left = record { short = omega arith; same = λ i l. refl; paired = no_pairs }

  -- the last of what is left has a place among the ends
  pub place_left : (left rest : List Config) (end : Config) (pairs : List (Config × Config)) → IsLeftPaired left pairs → left ≡ rest ++ end ∷ [] → length rest < length ends
  place_left left rest end pairs h e = omega (arith, h.short, ap (λ (cs : List Config). length cs) e, length-append rest (end ∷ []))

  abbrev no_config : Config
  no_config = record { parts = []; frame = [] }

  pub popped : (left rest : List Config) (end other : Config) (pairs new : List (Config × Config)) → IsLeftPaired left pairs → left ≡ rest ++ end ∷ []
      → other ≡ config_at others (get_or partners (length rest) 0) → new ≡ pairs ++ (end, other) ∷ [] → IsLeftPaired rest new
  popped left rest end other pairs new h e o n =
      let size : length left ≡ length rest + 1 = omega (arith, ap (λ (cs : List Config). length cs) e, length-append rest (end ∷ [])) in
      let there : config_at left (length rest) ≡ end = ap (λ (cs : List Config). config_at cs (length rest)) e ∙ get_or-append_seam rest end [] no_config in
      let is : end ≡ config_at ends (length rest) = sym there ∙ h.same (length rest) (omega (arith, size)) in
      let later : ArePaired ends others partners (length rest + 1) pairs = subst (λ (k : ℕ). ArePaired ends others partners k pairs) size h.paired in
      let pair : ◌≡◌ {A = Config × Config} (end, other) (pair_at ends others partners (length rest)) =
      ap (λ (c : Config). (c, other)) is ∙ ap (λ (d : Config). (config_at ends (length rest), d)) o in
      let all : new ≡ pairs ++ pair_at ends others partners (length rest) ∷ [] = n ∙ ap (λ (p : Config × Config). pairs ++ p ∷ []) pair in record {
        short = omega (arith, size, h.short);
        same = λ i l. (sym (get_or-append rest (end ∷ []) no_config i l) ∙ (ap (λ (cs : List Config). config_at cs i) (sym e) ∙ h.same i (omega (arith, size, l))));
        paired = subst (λ (ps : List (Config × Config)). ArePaired ends others partners (length rest) ps) (sym all) (more_pairs (length rest) pairs later (omega (arith, size, h.short)));
      }

-- an end and one of the others that look alike
abbrev IsPairOf : Theory → List Config → List Config → Config → Config → Type 0
IsPairOf theory ends others c d = Contains ends c × Contains others d × AreAlike theory c.frame d.frame

-- partners look alike
pub paired_alike : (theory : Theory) (ends others : List Config) (partners : List ℕ) (pairs : List (Config × Config)) → HavePartners theory ends others (length ends) partners
    → ArePaired ends others partners 0 pairs → ArePairs theory ends others pairs
paired_alike theory ends others partners pairs h p = record {
  alike = λ c d k.
      (let spot = p.sound (c, d) k in
      let one = h.partner spot.0 spot.1 in
      let here : IsPairOf theory ends others (config_at ends spot.0) (config_at others (get_or partners spot.0 0)) =
      (Contains-get_or ends spot.0 _ spot.1, Contains-get_or others (get_or partners spot.0 0) _ one.within, one.alike) in
      subst (λ (pair : Config × Config). IsPairOf theory ends others pair.0 pair.1) spot.2 here);
  complete = λ i b. (config_at others (get_or partners i 0), p.complete i (omega arith) b);
}

pub partners_within : (theory : Theory) (ends others : List Config) (partners : List ℕ) → HavePartners theory ends others (length ends) partners → AreWithin ends others partners
partners_within theory ends others partners h = record { counted = h.counted; within = λ i l. (h.partner i l).within }

-- an end without a partner
pub lone_verdict : (theory : Theory) (ends others : List Config) (place : ℕ) (end : Config) (tests : List Test) → place < length ends → end ≡ get_or ends place end
    → TellApart theory (frame_at ends place) others (length others) tests → Contains ends end × TellApart theory end.frame others (length others) tests
lone_verdict theory ends others place end tests l e t =
    let same : frame_at ends place ≡ end.frame = ap (λ (c : Config). c.frame) (sym (e ∙ get_or_default ends place end (record { parts = []; frame = [] }) l)) in
    ((place, l, sym e), subst (λ (f : List Tree). TellApart theory f others (length others) tests) same t)

pub ruleset for_verdict = (lone_verdict, partners_within, paired_alike)
