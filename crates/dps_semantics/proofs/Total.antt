-- Each configuration settles, and no run ends where none settled is left.
use Rattle.std.proofs.Common.{ℕ, zero, suc, ◌≤◌, List, [], ◌∷◌, ◌++◌, refl, arith}
use Rattle.dps_terms.specs.Tree.{Tree}
use Rattle.dps_terms.specs.Replace.{variables_to}
use Rattle.dps_theory.specs.Theory.{Theory}
use Rattle.dps_process.specs.Process.{Process, nil, parallel, choice, conditional, bind, input, output, put, only, process_nodes}
use Rattle.dps_process.proofs.Replacements.{process_nodes-replace_in}
use Rattle.dps_semantics.specs.Coming.{ComesTo, gone, both, by_first, by_passing, by_failing, by_binding, without_binding, an_input, an_output, AllComeTo, no_parts_come, a_part_comes}

module _ (theory : Theory) where
  abbrev Comes : Process → Type 0
  Comes p = (bs : List Process) × ComesTo theory p bs

  by_test : (u v : Tree) (p q : Process) → ¬ (¬ Comes p) → ¬ (¬ Comes q) → ¬ (¬ Comes (conditional u v p q))
  by_test u v p q h k n = k (λ b. n (b.0, by_failing (λ e. h (λ a. n (a.0, by_passing e a.1))) b.1))

  by_bind : (x : ℕ) (u : Tree) (p q : Process) → ((t : Tree) → ¬ (¬ Comes (put x t p))) → ¬ (¬ Comes q) → ¬ (¬ Comes (bind x u p q))
  by_bind x u p q h k n = k (λ b. n (b.0, without_binding (λ m. h m.0 (λ a. n (a.0, by_binding m.1 a.1))) b.1))

  comes : (n : ℕ) (p : Process) → process_nodes p ≤ n → ¬ (¬ Comes p)
  comes zero nil h n = absurd (omega (arith, h))
  comes zero (parallel p q) h n = absurd (omega (arith, h))
  comes zero (choice p q) h n = absurd (omega (arith, h))
  comes zero (conditional u v p q) h n = absurd (omega (arith, h))
  comes zero (bind x u p q) h n = absurd (omega (arith, h))
  comes zero (input c x p) h n = n (input c x p ∷ [], an_input)
  comes zero (output c u p) h n = n (output c u p ∷ [], an_output)
  comes (suc k) nil h n = n ([], gone)
  comes (suc k) (parallel p q) h n = comes k p (omega (arith, h)) (λ a. comes k q (omega (arith, h)) (λ b. n (a.0 ++ b.0, both a.1 b.1 refl)))
  comes (suc k) (choice p q) h n = comes k p (omega (arith, h)) (λ a. n (a.0, by_first a.1))
  comes (suc k) (conditional u v p q) h n = by_test u v p q (comes k p (omega (arith, h))) (comes k q (omega (arith, h))) n
  comes (suc k) (bind x u p q) h n = by_bind x u p q (λ t. comes k (put x t p) (let e = process_nodes-replace_in (variables_to (only x t)) p in omega (arith, h, e))) (comes k q (omega (arith, h))) n
  comes (suc k) (input c x p) h n = n (input c x p ∷ [], an_input)
  comes (suc k) (output c u p) h n = n (output c u p ∷ [], an_output)

  -- it is not so that parts never come to inputs and outputs
  pub all_come : (ps : List Process) → ¬ (¬ ((bs : List Process) × AllComeTo theory ps bs))
  all_come [] n = n ([], no_parts_come)
  all_come (p ∷ ps) n = comes (process_nodes p) p (omega arith) (λ a. all_come ps (λ b. n (a.0 ++ b.0, a_part_comes a.1 b.1 refl)))
