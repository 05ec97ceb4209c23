-- What tasks make of choices.
use Rattle.std.proofs.Common.{◌≡◌, ℕ, ◌+◌, ◌-◌, List, [], ◌∷◌, ◌++◌, length, map, take, drop, refl, sym, ◌∙◌, ap, arith, append_assoc, length-append, Bool, true, false, cond}
use Rattle.std.specs.Prelude.{All, ⊤}
use Rattle.std.specs.List.{flat_map}
use Rattle.std.proofs.lemmas.List.{append-nil}
use Rattle.std.proofs.lemmas.List.Elements.{All-nil, All-cons}
use Rattle.std.proofs.Math.Seq.{take-append_seam, drop-append_seam}
use Rattle.dps_terms.specs.declared.Sym.{Sym}
use Rattle.dps_terms.specs.Tree.{Tree, Trees, leaf, app, none, more, trees, list_of, count}
use Rattle.dps_terms.specs.Kinds.{AnyLeaf, AreBuiltOf}
use Rattle.dps_unify.specs.Renaming.{raised}
use Rattle.dps_theory.specs.Theory.{Rule, Theory}
use Rattle.dps_theory.specs.Overlaps.{room}
use Rattle.dps_symeval.specs.Cases.{Choices, is_destructor, reduced_by, rules_of, rule_from, fits_rule, applied, constructed, choices, all_choices}
use Rattle.dps_symeval.specs.Cases as Cases
use Rattle.dps_symeval.specs.declared.agenda.Task.{Task}
use Rattle.dps_symeval.specs.declared.agenda.Task.TheVariants.{Evaluate, Apply}
use Rattle.dps_symeval.specs.Agenda.{last, before_last, with_result, only_last, among_others, applied_last, constructed_last, narrowed_last, done, all_done, AreEvaluations, NoDestructor, IsFree}
use Rattle.dps_symeval.proofs.Sound.{length_count}
use Rattle.dps_symeval.proofs.Mapping.{joined_in_turn, joined_mapped, mapped_joined, mapped_in_turn, mapped_alike, joined_alike}
use Rattle.dps_symeval.proofs.Mapping.{joined_within, joined_single, joined_same, all_mapped, all_mapped_within, all_joined}

-- one record from its parts
choices_are :
    (es es2 : List (Tree × Tree)) (rs rs2 : List Tree) (next : ℕ) → es ≡ es2 → rs ≡ rs2
    → ◌≡◌ {A = Choices} (record { equations = es; results = rs; next = next }) (record { equations = es2; results = rs2; next = next })
choices_are es es2 rs rs2 next e d = λ i. record { equations = e i; results = d i; next = next }

any : {A : Type 0} → (xs : List A) → All (λ (x : A). ⊤) xs
any [] = All-nil (λ x. ⊤)
any (x ∷ xs) = All-cons (λ x. ⊤) x xs tt (any xs)

-- choices without equations
abbrev pub alone : ℕ → List Tree → Choices
alone next rs = record { equations = []; results = rs; next = next }

-- results before others, and equations before others
abbrev pub behind_results : List Tree → Choices → Choices
behind_results rs c = record { equations = c.equations; results = rs ++ c.results; next = c.next }

abbrev pub behind_equations : List (Tree × Tree) → Choices → Choices
behind_equations es c = record { equations = es ++ c.equations; results = c.results; next = c.next }

module _ (theory : Theory) where
  -- how many results there are
  one_by : (f : Sym) (c : Choices) (b : Bool) → All (λ (d : Choices). length d.results ≡ 1) (cond b (map (reduced_by c) (rules_of theory f)) (constructed f c))
  one_by f c true = all_mapped (λ (d : Choices). length d.results ≡ 1) (reduced_by c) (rules_of theory f) (λ r. refl)
  one_by f c false =
      All-cons (λ (d : Choices). length d.results ≡ 1) (record { equations = c.equations; results = app f (trees c.results) ∷ []; next = c.next }) [] refl
      (All-nil (λ (d : Choices). length d.results ≡ 1))

  pub one_result_each : (next : ℕ) (t : Tree) → All (λ (d : Choices). length d.results ≡ 1) (choices theory next t)
  one_result_each next (leaf x) =
      All-cons (λ (d : Choices). length d.results ≡ 1) (record { equations = []; results = leaf x ∷ []; next = next }) [] refl
      (All-nil (λ (d : Choices). length d.results ≡ 1))
  one_result_each next (app f ts) =
      all_joined (λ (d : Choices). ⊤) (λ (d : Choices). length d.results ≡ 1) (applied theory f) (all_choices theory next ts) (any (all_choices theory next ts))
      (λ c k. one_by f c (is_destructor theory f))

  pub as_many_results : (next : ℕ) (ts : Trees) → All (λ (d : Choices). length d.results ≡ count ts) (all_choices theory next ts)
  as_many_results next none =
      All-cons (λ (d : Choices). length d.results ≡ 0) (record { equations = []; results = []; next = next }) [] refl
      (All-nil (λ (d : Choices). length d.results ≡ 0))
  as_many_results next (more t ts) =
      all_joined (λ (d : Choices). length d.results ≡ 1) (λ (d : Choices). length d.results ≡ count (more t ts))
      (λ (c : Choices). map (Cases.joined c) (all_choices theory c.next ts)) (choices theory next t)
      (one_result_each next t)
      (λ c e. all_mapped_within (λ (d : Choices). length d.results ≡ count ts) (λ (d : Choices). length d.results ≡ count (more t ts)) (Cases.joined c) (all_choices theory c.next ts)
      (as_many_results c.next ts) (λ d k. omega (arith, length-append c.results d.results, e, k)))

  -- a term without destructors
  free_root : (f : Sym) (c : Choices) → is_destructor theory f ≡ false → applied theory f c ≡ constructed f c
  free_root f c e = ap (λ b. cond b (map (reduced_by c) (rules_of theory f)) (constructed f c)) e

  pub trees_again : (ts : Trees) → trees (list_of ts) ≡ ts
  trees_again none = refl
  trees_again (more t ts) = ap (λ us. more t us) (trees_again ts)

  mutual
    pub free_choices : (next : ℕ) (t : Tree) → IsFree theory t → choices theory next t ≡ alone next (t ∷ []) ∷ []
    free_choices next (leaf x) h = refl
    free_choices next (app f ts) h =
        let below = free_all next ts h.1 in
        let whole : Trees → List Choices = λ us. alone next (app f us ∷ []) ∷ [] in
        ap (λ cs. flat_map (applied theory f) cs) below
        ∙ (append-nil (applied theory f (alone next (list_of ts)))
        ∙ (free_root f (alone next (list_of ts)) h.0
        ∙ ap whole (trees_again ts)))

    pub free_all : (next : ℕ) (ts : Trees) → AreBuiltOf AnyLeaf (NoDestructor theory) ts → all_choices theory next ts ≡ alone next (list_of ts) ∷ []
    free_all next none h = refl
    free_all next (more t ts) h =
        ap (λ cs. flat_map (λ (c : Choices). map (Cases.joined c) (all_choices theory c.next ts)) cs) (free_choices next t h.0)
        ∙ (append-nil (map (Cases.joined (alone next (t ∷ []))) (all_choices theory next ts))
        ∙ ap (λ cs. map (Cases.joined (alone next (t ∷ []))) cs) (free_all next ts h.1))

  pub free_done : (t : Tree) (cs : List Choices) → IsFree theory t → flat_map (λ (c : Choices). map (Cases.joined c) (choices theory c.next t)) cs ≡ map (λ c. with_result c t) cs
  free_done t cs h =
      joined_single (λ (c : Choices). map (Cases.joined c) (choices theory c.next t)) (λ c. with_result c t) cs
      (λ c. ap (λ ds. map (Cases.joined c) ds) (free_choices c.next t h)
      ∙ ap (λ (d : Choices). d ∷ []) (choices_are (c.equations ++ []) c.equations (c.results ++ t ∷ []) (c.results ++ t ∷ []) c.next (append-nil c.equations) refl))

  -- a symbol over the last results
  pub construct_done : (f : Sym) (n : ℕ) (cs : List Choices) → is_destructor theory f ≡ false → flat_map (applied_last theory f n) cs ≡ map (constructed_last f n) cs
  construct_done f n cs e =
      joined_single (applied_last theory f n) (constructed_last f n) cs (λ c. ap (λ ds. map (among_others n c) ds) (free_root f (only_last n c) e))

  pub narrow_done : (f : Sym) (n : ℕ) (cs : List Choices) → is_destructor theory f ≡ true → flat_map (applied_last theory f n) cs ≡ flat_map (narrowed_last theory f n) cs
  narrow_done f n cs e =
      joined_alike (applied_last theory f n) (narrowed_last theory f n) cs
      (λ c. ap (λ b. map (among_others n c) (cond b (map (reduced_by (only_last n c)) (rules_of theory f)) (constructed f (only_last n c)))) e
      ∙ mapped_in_turn (among_others n c) (reduced_by (only_last n c)) (rules_of theory f))

  -- the root over the results of its arguments
  last_there : (rs ss : List Tree) (n : ℕ) → length ss ≡ n → last n (rs ++ ss) ≡ ss
  last_there rs ss n e =
      let k : length (rs ++ ss) - n ≡ length rs = omega (arith, length-append rs ss, e) in
      ap (λ m. drop m (rs ++ ss)) k ∙ drop-append_seam rs ss

  before_there : (rs ss : List Tree) (n : ℕ) → length ss ≡ n → before_last n (rs ++ ss) ≡ rs
  before_there rs ss n e =
      let k : length (rs ++ ss) - n ≡ length rs = omega (arith, length-append rs ss, e) in
      ap (λ m. take m (rs ++ ss)) k ∙ take-append_seam rs ss

  applied_by : (f : Sym) (c d : Choices) (b : Bool) →
      map (behind_results c.results) (cond b (map (reduced_by (behind_equations c.equations d)) (rules_of theory f)) (constructed f (behind_equations c.equations d)))
      ≡ map (Cases.joined c) (cond b (map (reduced_by d) (rules_of theory f)) (constructed f d))
  applied_by f c d true =
      let fits : Rule → List (Tree × Tree) = λ r. fits_rule d.results (rule_from d.next r) in
      let results : Rule → List Tree = λ r. c.results ++ raised d.next r.right ∷ [] in
      mapped_in_turn (behind_results c.results) (reduced_by (behind_equations c.equations d)) (rules_of theory f)
      ∙ (mapped_alike (λ (r : Rule). behind_results c.results (reduced_by (behind_equations c.equations d) r)) (λ (r : Rule). Cases.joined c (reduced_by d r)) (rules_of theory f)
      (λ r. choices_are ((c.equations ++ d.equations) ++ fits r) (c.equations ++ (d.equations ++ fits r)) (results r) (results r) (d.next + room r) (append_assoc c.equations d.equations (fits r)) refl)
      ∙ sym (mapped_in_turn (Cases.joined c) (reduced_by d) (rules_of theory f)))
  applied_by f c d false = refl

  applied_beside : (f : Sym) (n : ℕ) (c d : Choices) → length d.results ≡ n → applied_last theory f n (Cases.joined c d) ≡ map (Cases.joined c) (applied theory f d)
  applied_beside f n c d e =
      let l = last_there c.results d.results n e in
      let b = before_there c.results d.results n e in
      let only : List Tree → Choices = λ rs. record { equations = c.equations ++ d.equations; results = rs; next = d.next } in
      let moved : applied_last theory f n (Cases.joined c d) ≡ map (behind_results c.results) (applied theory f (behind_equations c.equations d)) =
      λ i. map (behind_results (b i)) (applied theory f (only (l i))) in
      moved ∙ applied_by f c d (is_destructor theory f)

  -- arguments one after another
  abbrev pub with_all : Trees → Choices → List Choices
  with_all ts c = map (Cases.joined c) (all_choices theory c.next ts)

  pub evaluate_root : (f : Sym) (ts : Trees) (cs : List Choices) →
      flat_map (λ (c : Choices). map (Cases.joined c) (choices theory c.next (app f ts))) cs ≡ flat_map (applied_last theory f (length (list_of ts))) (flat_map (with_all ts) cs)
  evaluate_root f ts cs =
      joined_alike (λ (c : Choices). map (Cases.joined c) (choices theory c.next (app f ts))) (λ c. flat_map (applied_last theory f (length (list_of ts))) (with_all ts c)) cs
      (λ c. mapped_joined (Cases.joined c) (applied theory f) (all_choices theory c.next ts)
      ∙ (sym (joined_within (λ (d : Choices). applied_last theory f (length (list_of ts)) (Cases.joined c d)) (λ (d : Choices). map (Cases.joined c) (applied theory f d)) (λ (d : Choices). length d.results ≡ count ts)
      (all_choices theory c.next ts) (as_many_results c.next ts) (λ d e. applied_beside f (length (list_of ts)) c d (e ∙ sym (length_count ts))))
      ∙ sym (joined_mapped (applied_last theory f (length (list_of ts))) (Cases.joined c) (all_choices theory c.next ts))))
      ∙ sym (joined_in_turn (applied_last theory f (length (list_of ts))) (with_all ts) cs)

  none_more : (cs : List Choices) → flat_map (with_all none) cs ≡ cs
  none_more cs =
      joined_same (with_all none) cs
      (λ c. ap (λ (d : Choices). d ∷ []) (choices_are (c.equations ++ []) c.equations (c.results ++ []) c.results c.next (append-nil c.equations) (append-nil c.results)))

  joined_twice : (c d e : Choices) → Cases.joined (Cases.joined c d) e ≡ Cases.joined c (Cases.joined d e)
  joined_twice c d e =
      choices_are ((c.equations ++ d.equations) ++ e.equations) (c.equations ++ (d.equations ++ e.equations)) ((c.results ++ d.results) ++ e.results) (c.results ++ (d.results ++ e.results)) e.next
      (append_assoc c.equations d.equations e.equations) (append_assoc c.results d.results e.results)

  one_more : (t : Tree) (ts : Trees) (cs : List Choices) → flat_map (with_all ts) (flat_map (λ (c : Choices). map (Cases.joined c) (choices theory c.next t)) cs) ≡ flat_map (with_all (more t ts)) cs
  one_more t ts cs =
      joined_in_turn (with_all ts) (λ (c : Choices). map (Cases.joined c) (choices theory c.next t)) cs
      ∙ joined_alike (λ (c : Choices). flat_map (with_all ts) (map (Cases.joined c) (choices theory c.next t))) (with_all (more t ts)) cs
      (λ c. joined_mapped (with_all ts) (Cases.joined c) (choices theory c.next t)
      ∙ (joined_alike (λ (d : Choices). with_all ts (Cases.joined c d)) (λ (d : Choices). map (Cases.joined c) (map (Cases.joined d) (all_choices theory d.next ts))) (choices theory c.next t)
      (λ d. mapped_alike (Cases.joined (Cases.joined c d)) (λ (e : Choices). Cases.joined c (Cases.joined d e)) (all_choices theory d.next ts) (λ e. joined_twice c d e)
      ∙ sym (mapped_in_turn (Cases.joined c) (Cases.joined d) (all_choices theory d.next ts)))
      ∙ sym (mapped_joined (Cases.joined c) (λ (d : Choices). map (Cases.joined d) (all_choices theory d.next ts)) (choices theory c.next t))))

  pub evaluations_done :
      (tasks rest : List Task) (ts : List Tree) (cs : List Choices) → AreEvaluations tasks ts
      → all_done theory (tasks ++ rest) cs ≡ all_done theory rest (flat_map (with_all (trees ts)) cs)
  evaluations_done [] rest [] cs h = ap (all_done theory rest) (sym (none_more cs))
  evaluations_done [] rest (t ∷ ts) cs h = absurd h
  evaluations_done (Evaluate r ∷ tasks) rest [] cs h = absurd h
  evaluations_done (Evaluate r ∷ tasks) rest (t ∷ ts) cs h =
      evaluations_done tasks rest ts (flat_map (done theory (Evaluate r)) cs) h.1
      ∙ (ap (λ u. all_done theory rest (flat_map (with_all (trees ts)) (flat_map (λ (c : Choices). map (Cases.joined c) (choices theory c.next u)) cs))) h.0
      ∙ ap (all_done theory rest) (one_more t (trees ts) cs))
  evaluations_done (Apply r ∷ tasks) rest ts cs h = absurd h
