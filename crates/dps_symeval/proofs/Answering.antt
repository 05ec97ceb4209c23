-- From choices to cases.
use Rattle.std.proofs.Common.{◌≡◌, ℕ, ◌-◌, ◌<◌, List, [], ◌∷◌, ◌++◌, length, map, reverse, refl, sym, ◌∙◌, ap, subst, arith, append_assoc, length-append, inl, inr}
use Rattle.std.specs.Prelude.{All}
use Rattle.std.specs.List.{flat_map}
use Rattle.std.proofs.lemmas.List.{append-nil, reverse-append, length-reverse, get_or-reverse}
use Rattle.std.proofs.lemmas.List.Elements.{All-nil, All-cons, All-head, All-tail}
use Rattle.dps_terms.specs.Tree.{Tree}
use Rattle.dps_theory.specs.Theory.{Theory}
use Rattle.dps_terms.specs.Seen.{seen}
use Rattle.dps_terms.specs.declared.borrowed.TermRef.{TermRef}
use Rattle.dps_symeval.specs.Cases.{Case, Choices, choices, cases, equal_cases, equal_with, as_case, result_of, IsUnifiable, IsPruned, all_seen, keeps, leaves_out, ArePossible}
use Rattle.dps_symeval.specs.Cases as Cases
use Rattle.dps_symeval.specs.declared.agenda.Task.{Task}
use Rattle.dps_symeval.specs.declared.agenda.Task.TheVariants.{Evaluate}
use Rattle.dps_symeval.specs.Agenda.{no_terms, all_done, IsThinned, none_left, stays, goes, AreOpen, as_equal_case, second_of, AddsPossible}
use Rattle.dps_symeval.proofs.Listed.{all_left, all_right}
use Rattle.dps_symeval.proofs.Mapping.{mapped_joined, mapped_in_turn, mapped_alike, joined_within, all_joined, all_mapped_within}
use Rattle.dps_symeval.proofs.Thinning.{pruned_as, pruned_in_turn, possible_cases, shut_longer}
use Rattle.dps_symeval.proofs.Tasks.{one_result_each}

kept_all : (P : Choices → Type 0) {all kept : List Choices} → IsThinned all kept → All P all → All P kept
kept_all P none_left h = h
kept_all P (stays {c} {all} {kept} a) h = All-cons P c kept (All-head P c all h) (kept_all P a (All-tail P c all h))
kept_all P (goes {c} {all} n a) h = kept_all P a (All-tail P c all h)

beside_none : (n : ℕ) (cs : List Choices) → map (Cases.joined (no_terms n)) cs ≡ cs
beside_none n [] = refl
beside_none n (c ∷ cs) = ap (λ ds. c ∷ ds) (beside_none n cs)

module _ (theory : Theory) (first : ℕ) where
  start_done : (t : Tree) → flat_map (λ (c : Choices). map (Cases.joined c) (choices theory c.next t)) (no_terms first ∷ []) ≡ choices theory first t
  start_done t = append-nil (map (Cases.joined (no_terms first)) (choices theory first t)) ∙ beside_none first (choices theory first t)

  -- one term
  pub opened_by : (r : TermRef) (t : Tree) (cs : List Choices) → seen r ≡ t → AreOpen (all_done theory (Evaluate r ∷ []) (no_terms first ∷ [])) cs → AreOpen (choices theory first t) cs
  opened_by r t cs e h = subst (λ u. AreOpen (choices theory first u) cs) e (subst (λ xs. AreOpen xs cs) (start_done (seen r)) h)

  pub one_each : (t : Tree) (cs : List Choices) → AreOpen (choices theory first t) cs → All (λ (c : Choices). length c.results ≡ 1) cs
  one_each t cs h = kept_all (λ (c : Choices). length c.results ≡ 1) h.thinned (one_result_each theory first t)

  pub answers : (t : Tree) (cs : List Choices) (found : List Case) → AreOpen (choices theory first t) cs → found ≡ map (as_case t) cs → ArePossible (cases theory first t) found
  answers t cs found h e = subst (ArePossible (cases theory first t)) (sym e) (possible_cases t h)

  -- two terms
  abbrev pub both_choices : Tree → Tree → List Choices
  both_choices t u = flat_map (λ (c : Choices). map (Cases.joined c) (choices theory c.next u)) (choices theory first t)

  pub both_opened_by :
      (r s : TermRef) (t u : Tree) (cs : List Choices) → seen r ≡ t → seen s ≡ u
      → AreOpen (all_done theory (Evaluate r ∷ Evaluate s ∷ []) (no_terms first ∷ [])) cs → AreOpen (both_choices t u) cs
  both_opened_by r s t u cs e d h =
      subst (λ v. AreOpen (both_choices t v) cs) d
      (subst (λ v. AreOpen (both_choices v (seen s)) cs) e
      (subst (λ xs. AreOpen (flat_map (λ (c : Choices). map (Cases.joined c) (choices theory c.next (seen s))) xs) cs) (start_done (seen r)) h))

  pub two_each : (t u : Tree) (cs : List Choices) → AreOpen (both_choices t u) cs → All (λ (c : Choices). length c.results ≡ 2) cs
  two_each t u cs h =
      kept_all (λ (c : Choices). length c.results ≡ 2) h.thinned
      (all_joined (λ (c : Choices). length c.results ≡ 1) (λ (c : Choices). length c.results ≡ 2) (λ (c : Choices). map (Cases.joined c) (choices theory c.next u)) (choices theory first t) (one_result_each theory first t)
      (λ c e. all_mapped_within (λ (d : Choices). length d.results ≡ 1) (λ (d : Choices). length d.results ≡ 2) (Cases.joined c) (choices theory c.next u) (one_result_each theory c.next u)
      (λ d k. omega (arith, length-append c.results d.results, e, k))))

  first_there : (t : Tree) (rs ss : List Tree) → length rs ≡ 1 → result_of (rs ++ ss) t ≡ result_of rs t
  first_there t [] ss e = absurd (omega arith)
  first_there t (r ∷ rs) ss e = refl

  second_there : (u : Tree) (rs ss : List Tree) → length rs ≡ 1 → second_of (rs ++ ss) u ≡ result_of ss u
  second_there u [] ss e = absurd (omega arith)
  second_there u (r ∷ []) ss e = refl
  second_there u (r ∷ q ∷ rs) ss e = absurd (omega arith)

  same_case : (t u : Tree) (c d : Choices) → length c.results ≡ 1 → as_equal_case t u (Cases.joined c d) ≡ equal_with t c u d
  same_case t u c d e =
      let a = first_there t c.results d.results e in
      let b = second_there u c.results d.results e in
      let s = append_assoc c.equations d.equations ((result_of c.results t, result_of d.results u) ∷ []) in
      let made : Tree → Tree → Case = λ v w. record { equations = (c.equations ++ d.equations) ++ (v, w) ∷ []; result = v } in
      let moved : as_equal_case t u (Cases.joined c d) ≡ made (result_of c.results t) (result_of d.results u) = λ i. made (a i) (b i) in
      let grouped : made (result_of c.results t) (result_of d.results u) ≡ equal_with t c u d = λ i. record { equations = s i; result = result_of c.results t } in
      moved ∙ grouped

  both_cases : (t u : Tree) → map (as_equal_case t u) (both_choices t u) ≡ equal_cases theory first t u
  both_cases t u =
      mapped_joined (as_equal_case t u) (λ (c : Choices). map (Cases.joined c) (choices theory c.next u)) (choices theory first t)
      ∙ joined_within (λ (c : Choices). map (as_equal_case t u) (map (Cases.joined c) (choices theory c.next u))) (λ (c : Choices). map (equal_with t c u) (choices theory c.next u))
      (λ (c : Choices). length c.results ≡ 1) (choices theory first t) (one_result_each theory first t)
      (λ c e. mapped_in_turn (as_equal_case t u) (Cases.joined c) (choices theory c.next u) ∙ mapped_alike (λ (d : Choices). as_equal_case t u (Cases.joined c d)) (equal_with t c u) (choices theory c.next u) (λ d. same_case t u c d e))

  pub equal_answers :
      (t u : Tree) (cs : List Choices) (found : List Case) → AreOpen (both_choices t u) cs
      → ArePossible (map (as_equal_case t u) cs) found → ArePossible (equal_cases theory first t u) found
  equal_answers t u cs found h k = record {
    pruned =
        pruned_in_turn
        (subst (λ xs. IsPruned xs (map (as_equal_case t u) cs)) (both_cases t u)
        (pruned_as (as_equal_case t u) (λ c n. shut_longer c.equations ((result_of c.results t, second_of c.results u) ∷ []) n) h.thinned))
        k.pruned;
    possible = k.possible;
  }

-- choices one by one
pub popped_last : (cs popped : List Choices) (c : Choices) → cs ≡ popped ++ c ∷ [] → reverse cs ≡ c ∷ reverse popped
popped_last cs popped c e = ap reverse e ∙ reverse-append popped (c ∷ [])

pub next_case :
    (t : Tree) (all : List Case) (found after : List Case) (cs popped : List Choices) (c : Choices) (case : Case)
    → cs ≡ popped ++ c ∷ [] → case ≡ as_case t c → after ≡ found ++ case ∷ [] → found ++ map (as_case t) (reverse cs) ≡ all
    → after ++ map (as_case t) (reverse popped) ≡ all
next_case t all found after cs popped c case e s a h =
    ap (λ xs. xs ++ map (as_case t) (reverse popped)) a
    ∙ (append_assoc found (case ∷ []) (map (as_case t) (reverse popped))
    ∙ (ap (λ x. found ++ (x ∷ map (as_case t) (reverse popped))) s
    ∙ (sym (ap (λ xs. found ++ map (as_case t) xs) (popped_last cs popped c e))
    ∙ h)))

pub next_possible : (all : List Case) (c : Case) (rest kept old new : List Case)
    → ((others : List Case) → ArePossible (c ∷ rest) others → ArePossible all (old ++ others))
    → AddsPossible c old new → ArePossible rest kept → ArePossible all (new ++ kept)
next_possible all c rest kept old new h (inl a) k =
    subst (ArePossible all) (sym (ap (λ xs. xs ++ kept) a.1 ∙ append_assoc old (c ∷ []) kept))
    (h (c ∷ kept) (record { pruned = keeps k.pruned; possible = All-cons (λ (x : Case). IsUnifiable x.equations) c kept a.0 k.possible }))
next_possible all c rest kept old new h (inr a) k =
    subst (ArePossible all) (sym (ap (λ xs. xs ++ kept) a.1)) (h kept (record { pruned = leaves_out a.0 k.pruned; possible = k.possible }))

pub popped_all : (P : Choices → Type 0) (cs popped : List Choices) (c : Choices) → cs ≡ popped ++ c ∷ [] → All P cs → All P popped × P c
popped_all P cs popped c e a =
    let h : All P (popped ++ c ∷ []) = subst (All P) e a in (all_left P popped (c ∷ []) h, All-head P c [] (all_right P popped (c ∷ []) h))

pub reversed_all : (P : Choices → Type 0) (cs : List Choices) → All P cs → All P (reverse cs)
reversed_all P cs a = λ k d h.
    let l : k < length cs = omega (arith, h, length-reverse cs) in
    subst P (sym (get_or-reverse cs k d l)) (a (length cs - 1 - k) d (omega arith))

pub no_choice : (cs : List Choices) → length cs ≡ 0 → cs ≡ []
no_choice [] e = refl
no_choice (c ∷ cs) e = absurd (omega (arith, e))

pub listed_all : (f : Choices → Case) (all found : List Case) (cs : List Choices) → cs ≡ [] → found ++ map f (reverse cs) ≡ all → found ≡ all
listed_all f all found cs e h = sym (append-nil found) ∙ (sym (ap (λ xs. found ++ map f (reverse xs)) e) ∙ h)

pub possible_all :
    (f : Choices → Case) (all found : List Case) (cs : List Choices) → cs ≡ []
    → ((kept : List Case) → ArePossible (map f (reverse cs)) kept → ArePossible all (found ++ kept)) → ArePossible all found
possible_all f all found cs e h =
    subst (ArePossible all) (append-nil found)
    (h [] (subst (λ xs. ArePossible (map f (reverse xs)) []) (sym e) (record { pruned = all_seen; possible = All-nil (λ (c : Case). IsUnifiable c.equations) })))

-- the agenda at the start
pub one_task : (r : TermRef) (empty items : List Task) → empty ≡ [] → items ≡ empty ++ Evaluate r ∷ [] → reverse items ≡ Evaluate r ∷ []
one_task r empty items e h = ap reverse (h ∙ ap (λ ts. ts ++ Evaluate r ∷ []) e)

pub two_tasks : (r s : TermRef) (empty one items : List Task) → empty ≡ [] → one ≡ empty ++ Evaluate s ∷ [] → items ≡ one ++ Evaluate r ∷ [] → reverse items ≡ Evaluate r ∷ Evaluate s ∷ []
two_tasks r s empty one items e h k = ap reverse (k ∙ ap (λ ts. ts ++ Evaluate r ∷ []) (h ∙ ap (λ ts. ts ++ Evaluate s ∷ []) e))
