-- The order of the two processes of a choice, or of a parallel composition, matters to no trace.
use Rattle.std.proofs.Common.{◌≡◌, List, [], ◌∷◌, refl, sym, ◌∙◌, inl, inr}
use Rattle.dps_terms.specs.Tree.{Tree}
use Rattle.dps_signature.specs.Signature.{Signature}
use Rattle.dps_theory.specs.Theory.{Theory}
use Rattle.dps_process.specs.Models.{Model}
use Rattle.dps_process.specs.Process.{Process, parallel, choice}
use Rattle.dps_process.specs.Steps.{Config, start, Label, here, there, splits, first, second, alone, no_parts, a_part, AreOneBag}
use Rattle.dps_process.specs.Traces.{Runs, done, silently, Ends, IsTrace, IsIncluded, AreTraceEquivalent}
use Rattle.dps_process.proofs.Bags.{ends_reordered}
use Rattle.dps_process.proofs.TraceEquivalence.{same_traces}
use Rattle.dps_process.proofs.RunBeginnings.{config, one_part, one_part_ends}

module _ (model : Model) (signature : Signature) (theory : Theory) where
  from_choice :
      (p q : Process) (word : List Label) (frame : List Tree) (d : Config) → d.frame ≡ frame
      → Runs model signature theory (start (choice p q)) word d → IsTrace model signature theory (choice q p) word frame
  from_choice p q [] frame d e r = elim (one_part_ends model signature theory r) [
    | inl f ↦ (start (choice q p), done, sym f ∙ e)
    | inr (inl s) ↦ (d, silently (alone here second refl refl) s, e)
    | inr (inr s) ↦ (d, silently (alone here first refl refl) s, e)
  ]
  from_choice p q (label ∷ word) frame d e r = elim (one_part model signature theory r) [
    | inl (inl s) ↦ (d, silently (alone here second refl refl) s, e)
    | inl (inr s) ↦ (d, silently (alone here first refl refl) s, e)
    | inr s ↦ absurd s
  ]

  choice_included : (p q : Process) → IsIncluded model signature theory (choice p q) (choice q p)
  choice_included p q = same_traces model signature theory (choice p q) (choice q p) (λ word frame t. from_choice p q word frame t.0 t.2 t.1)

  pub choice_commutes : (p q : Process) → AreTraceEquivalent model signature theory (choice p q) (choice q p)
  choice_commutes p q = record { forth = choice_included p q; back = choice_included q p }

  exchanged : (p q : Process) → AreOneBag (config (p ∷ q ∷ []) []) (config (q ∷ p ∷ []) [])
  exchanged p q = record { parts = a_part (there here) (a_part here no_parts); frame = refl }

  from_parts : (p q : Process) (word : List Label) (frame : List Tree) → Ends model signature theory (config (p ∷ q ∷ []) []) word frame → IsTrace model signature theory (parallel q p) word frame
  from_parts p q word frame e =
      let other = ends_reordered model signature theory (config (p ∷ q ∷ []) []) (config (q ∷ p ∷ []) []) word frame (exchanged p q) e in
      (other.0, silently (alone here splits refl refl) other.1, other.2)

  from_parallel :
      (p q : Process) (word : List Label) (frame : List Tree) (d : Config) → d.frame ≡ frame
      → Runs model signature theory (start (parallel p q)) word d → IsTrace model signature theory (parallel q p) word frame
  from_parallel p q [] frame d e r = elim (one_part_ends model signature theory r) [
    | inl f ↦ (start (parallel q p), done, sym f ∙ e)
    | inr s ↦ from_parts p q [] frame (d, s, e)
  ]
  from_parallel p q (label ∷ word) frame d e r = elim (one_part model signature theory r) [
    | inl s ↦ from_parts p q (label ∷ word) frame (d, s, e)
    | inr s ↦ absurd s
  ]

  parallel_included : (p q : Process) → IsIncluded model signature theory (parallel p q) (parallel q p)
  parallel_included p q = same_traces model signature theory (parallel p q) (parallel q p) (λ word frame t. from_parallel p q word frame t.0 t.2 t.1)

  pub parallel_commutes : (p q : Process) → AreTraceEquivalent model signature theory (parallel p q) (parallel q p)
  parallel_commutes p q = record { forth = parallel_included p q; back = parallel_included q p }
