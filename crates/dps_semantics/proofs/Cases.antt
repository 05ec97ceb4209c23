-- To what each form of process comes by itself.
use Rattle.std.proofs.Common.{◌≡◌, ℕ, ◌<◌, List, [], ◌∷◌, ◌++◌, refl, sym, ◌∙◌, ap, subst, inl, inr, arith, append-nil}
use Rattle.std.specs.Prelude.{◌⊎◌, Contains, ◌↔◌}
use Rattle.dps_terms.specs.Tree.{Tree}
use Rattle.dps_terms.specs.Replace.{variables_to}
use Rattle.dps_theory.specs.Theory.{Theory, IsAccepted}
use Rattle.dps_theory.specs.Evaluation.{Evaluates, IsMessage, AreEqual}
use Rattle.dps_theory.proofs.Evaluating.{evaluates_once}
use Rattle.dps_bags.specs.Bags.{AreJoined}
use Rattle.dps_process.specs.Process.{Process, nil, parallel, choice, conditional, bind, input, output, put, only, process_nodes}
use Rattle.dps_process.proofs.Replacements.{process_nodes-replace_in}
use Rattle.dps_semantics.specs.Parts.{StandForJust, Both}
use Rattle.dps_semantics.specs.Settling.{IsPrefix}
use Rattle.dps_semantics.specs.Coming.{ComesTo, gone, both, by_first, by_second, by_passing, by_failing, by_binding, without_binding, an_input, an_output, AllComeTo, no_parts_come, a_part_comes}
use Rattle.dps_semantics.proofs.Arriving.{come_both, come_apart}
use Rattle.dps_semantics.proofs.Tables.{grown_none, just_as, just_joined, just_either, just_one, no_numbers_there}

pub bind_falls : (x : ℕ) (u t : Tree) (p q process then : Process) → bind x u p q ≡ process → then ≡ put x t p → process_nodes then < process_nodes process
bind_falls x u t p q process then e f =
    let one : process_nodes then ≡ process_nodes p = ap process_nodes f ∙ process_nodes-replace_in (variables_to (only x t)) p in
    let all : process_nodes (bind x u p q) ≡ process_nodes process = ap process_nodes e in
    omega (arith, one, all)

module _ (theory : Theory) where
  gone_alone : (ps : List Process) → ComesTo theory nil ps → ps ≡ []
  gone_alone ps gone = refl

  pub nil_stands : (table : List Process) (bags : List (List ℕ)) → ((b : List ℕ) → Contains bags b ↔ (b ≡ [])) → StandForJust (ComesTo theory nil) table table bags
  nil_stands table bags j =
      just_as (λ ps. ps ≡ []) (ComesTo theory nil) table table bags (λ ps e. subst (ComesTo theory nil) (sym e) gone) gone_alone
      (just_one table table [] bags (grown_none table) (no_numbers_there table) j)

  pub none_stand : (table : List Process) (bags : List (List ℕ)) → ((b : List ℕ) → Contains bags b ↔ (b ≡ [])) → StandForJust (AllComeTo theory []) table table bags
  none_stand table bags j =
      just_as (λ ps. ps ≡ []) (AllComeTo theory []) table table bags (λ ps e. subst (AllComeTo theory []) (sym e) no_parts_come) none_alone
      (just_one table table [] bags (grown_none table) (no_numbers_there table) j)
    where
      none_alone : (ps : List Process) → AllComeTo theory [] ps → ps ≡ []
      none_alone ps no_parts_come = refl

  both_come : (p q : Process) (rs : List Process) → Both (ComesTo theory p) (ComesTo theory q) rs → ComesTo theory (parallel p q) rs
  both_come p q rs b = both b.2 b.3 b.4

  both_from : (p q : Process) (rs : List Process) → ComesTo theory (parallel p q) rs → Both (ComesTo theory p) (ComesTo theory q) rs
  both_from p q rs (both {ps = ps} {qs} h k e) = (ps, qs, h, k, e)

  pub parallel_stands : (p q : Process) (old mid new : List Process) (ones others bags : List (List ℕ))
      → StandForJust (ComesTo theory p) old mid ones → StandForJust (ComesTo theory q) mid new others → AreJoined ones others bags → StandForJust (ComesTo theory (parallel p q)) old new bags
  parallel_stands p q old mid new ones others bags h k j =
      just_as (Both (ComesTo theory p) (ComesTo theory q)) (ComesTo theory (parallel p q)) old new bags (both_come p q) (both_from p q)
      (just_joined (ComesTo theory p) (ComesTo theory q) old mid new ones others bags h k j)

  either_from : (p q : Process) (ps : List Process) → ComesTo theory (choice p q) ps → ComesTo theory p ps ⊎ ComesTo theory q ps
  either_from p q ps (by_first h) = inl h
  either_from p q ps (by_second h) = inr h

  pub choice_stands : (p q : Process) (old mid new : List Process) (ones others bags : List (List ℕ))
      → StandForJust (ComesTo theory p) old mid ones → StandForJust (ComesTo theory q) mid new others
      → ((b : List ℕ) → Contains bags b ↔ (Contains ones b ⊎ Contains others b))
      → StandForJust (ComesTo theory (choice p q)) old new bags
  choice_stands p q old mid new ones others bags h k j =
      just_as (λ ps. ComesTo theory p ps ⊎ ComesTo theory q ps) (ComesTo theory (choice p q)) old new bags (λ ps. elim [ inl l ↦ by_first l | inr r ↦ by_second r ]) (either_from p q)
      (just_either (ComesTo theory p) (ComesTo theory q) old mid new ones others bags h k j)

  then_from : (u v : Tree) (p q : Process) (ps : List Process) → AreEqual theory u v → ComesTo theory (conditional u v p q) ps → ComesTo theory p ps
  then_from u v p q ps e (by_passing f h) = h
  then_from u v p q ps e (by_failing f h) = absurd (f e)

  pub then_stands : (u v : Tree) (p q : Process) (old new : List Process) (bags : List (List ℕ))
      → AreEqual theory u v → StandForJust (ComesTo theory p) old new bags → StandForJust (ComesTo theory (conditional u v p q)) old new bags
  then_stands u v p q old new bags e h =
      just_as (ComesTo theory p) (ComesTo theory (conditional u v p q)) old new bags (λ ps k. by_passing e k) (λ ps k. then_from u v p q ps e k) h

  else_from : (u v : Tree) (p q : Process) (ps : List Process) → (¬ AreEqual theory u v) → ComesTo theory (conditional u v p q) ps → ComesTo theory q ps
  else_from u v p q ps e (by_passing f h) = absurd (e f)
  else_from u v p q ps e (by_failing f h) = h

  pub else_stands : (u v : Tree) (p q : Process) (old new : List Process) (bags : List (List ℕ))
      → (¬ AreEqual theory u v) → StandForJust (ComesTo theory q) old new bags → StandForJust (ComesTo theory (conditional u v p q)) old new bags
  else_stands u v p q old new bags e h =
      just_as (ComesTo theory q) (ComesTo theory (conditional u v p q)) old new bags (λ ps k. by_failing e k) (λ ps k. else_from u v p q ps e k) h

  bound_from : (x : ℕ) (u t : Tree) (p q : Process) (ps : List Process) → IsAccepted theory → Evaluates theory u t → ComesTo theory (bind x u p q) ps → ComesTo theory (put x t p) ps
  bound_from x u t p q ps a e (by_binding {t = s} f h) = subst (λ (v : Tree). ComesTo theory (put x v p) ps) (evaluates_once theory a f e) h
  bound_from x u t p q ps a e (without_binding f h) = absurd (f (t, e))

  pub bound_stands : (x : ℕ) (u t : Tree) (p q then : Process) (old new : List Process) (bags : List (List ℕ))
      → IsAccepted theory → Evaluates theory u t → then ≡ put x t p → StandForJust (ComesTo theory then) old new bags → StandForJust (ComesTo theory (bind x u p q)) old new bags
  bound_stands x u t p q then old new bags a e f h =
      just_as (ComesTo theory (put x t p)) (ComesTo theory (bind x u p q)) old new bags (λ ps k. by_binding e k) (λ ps k. bound_from x u t p q ps a e k)
      (subst (λ (p : Process). StandForJust (ComesTo theory p) old new bags) f h)

  unbound_from : (x : ℕ) (u : Tree) (p q : Process) (ps : List Process) → (¬ IsMessage theory u) → ComesTo theory (bind x u p q) ps → ComesTo theory q ps
  unbound_from x u p q ps e (by_binding {t = s} f h) = absurd (e (s, f))
  unbound_from x u p q ps e (without_binding f h) = h

  pub unbound_stands : (x : ℕ) (u : Tree) (p q : Process) (old new : List Process) (bags : List (List ℕ))
      → (¬ IsMessage theory u) → StandForJust (ComesTo theory q) old new bags → StandForJust (ComesTo theory (bind x u p q)) old new bags
  unbound_stands x u p q old new bags e h =
      just_as (ComesTo theory q) (ComesTo theory (bind x u p q)) old new bags (λ ps k. without_binding e k) (λ ps k. unbound_from x u p q ps e k) h

  input_from : (c x : ℕ) (p : Process) (ps : List Process) → ComesTo theory (input c x p) ps → ps ≡ input c x p ∷ []
  input_from c x p ps an_input = refl

  input_stands : (c x : ℕ) (p : Process) (old new : List Process) (bags : List (List ℕ)) → StandForJust (λ ps. ps ≡ input c x p ∷ []) old new bags
      → StandForJust (ComesTo theory (input c x p)) old new bags
  input_stands c x p old new bags h =
      just_as (λ ps. ps ≡ input c x p ∷ []) (ComesTo theory (input c x p)) old new bags (λ ps e. subst (ComesTo theory (input c x p)) (sym e) an_input) (input_from c x p) h

  output_from : (c : ℕ) (u : Tree) (p : Process) (ps : List Process) → ComesTo theory (output c u p) ps → ps ≡ output c u p ∷ []
  output_from c u p ps an_output = refl

  output_stands : (c : ℕ) (u : Tree) (p : Process) (old new : List Process) (bags : List (List ℕ)) → StandForJust (λ ps. ps ≡ output c u p ∷ []) old new bags
      → StandForJust (ComesTo theory (output c u p)) old new bags
  output_stands c u p old new bags h =
      just_as (λ ps. ps ≡ output c u p ∷ []) (ComesTo theory (output c u p)) old new bags (λ ps e. subst (ComesTo theory (output c u p)) (sym e) an_output) (output_from c u p) h

  one_more_from : (ps : List Process) (p : Process) (rs : List Process) → AllComeTo theory (ps ++ p ∷ []) rs → Both (AllComeTo theory ps) (ComesTo theory p) rs
  one_more_from ps p rs h = let a = come_apart theory ps (p ∷ []) h in last a.0 a.1 a.2 a.3 a.4
    where
      last : (bs cs : List Process) → AllComeTo theory ps bs → AllComeTo theory (p ∷ []) cs → rs ≡ bs ++ cs → Both (AllComeTo theory ps) (ComesTo theory p) rs
      last bs cs k (a_part_comes {bs = ds} l no_parts_come e) f = (bs, ds, k, l, f ∙ ap (λ xs. bs ++ xs) (e ∙ append-nil ds))

  one_more_come : (ps : List Process) (p : Process) (rs : List Process) → Both (AllComeTo theory ps) (ComesTo theory p) rs → AllComeTo theory (ps ++ p ∷ []) rs
  one_more_come ps p rs b = subst (AllComeTo theory (ps ++ p ∷ [])) (sym b.4) (come_both theory b.2 (a_part_comes b.3 no_parts_come (sym (append-nil b.1))))

  -- one process more
  pub more_stand : (ps : List Process) (p : Process) (old mid new : List Process) (ones others bags : List (List ℕ))
      → StandForJust (AllComeTo theory ps) old mid ones → StandForJust (ComesTo theory p) mid new others → AreJoined ones others bags → StandForJust (AllComeTo theory (ps ++ p ∷ [])) old new bags
  more_stand ps p old mid new ones others bags h k j =
      just_as (Both (AllComeTo theory ps) (ComesTo theory p)) (AllComeTo theory (ps ++ p ∷ [])) old new bags (one_more_come ps p) (one_more_from ps p)
      (just_joined (AllComeTo theory ps) (ComesTo theory p) old mid new ones others bags h k j)

  -- an input or an output comes to itself
  pub prefix_stands : (p : Process) (old new : List Process) (bags : List (List ℕ)) → IsPrefix p → StandForJust (λ ps. ps ≡ p ∷ []) old new bags → StandForJust (ComesTo theory p) old new bags
  prefix_stands nil old new bags i h = absurd i
  prefix_stands (parallel p q) old new bags i h = absurd i
  prefix_stands (choice p q) old new bags i h = absurd i
  prefix_stands (conditional u v p q) old new bags i h = absurd i
  prefix_stands (bind x u p q) old new bags i h = absurd i
  prefix_stands (input c x p) old new bags i h = input_stands c x p old new bags h
  prefix_stands (output c u p) old new bags i h = output_stands c u p old new bags h
