-- The traces of a process that is one output.
use Rattle.std.proofs.Common.{◌≡◌, ℕ, List, [], ◌∷◌, refl, ◌∙◌, ap, subst, inl, inr}
use Rattle.std.specs.Prelude.{◌⊎◌, codes}
use Rattle.dps_terms.specs.Tree.{Tree}
use Rattle.dps_signature.specs.Signature.{Signature}
use Rattle.dps_signature.specs.Kinds.{IsPlain}
use Rattle.dps_theory.specs.Theory.{Theory}
use Rattle.dps_theory.specs.Evaluation.{Evaluates}
use Rattle.dps_theory.specs.Examples.{signature, theory, b}
use Rattle.dps_theory.proofs.Evaluating.{plain_alone}
use Rattle.dps_process.specs.Models.{Model}
use Rattle.dps_process.specs.Process.{nil, output}
use Rattle.dps_process.specs.Steps.{Config, Label, inputs, outputs, overhears, here, sends, alone}
use Rattle.dps_process.specs.Traces.{Runs, done, visibly, IsTrace}
use Rattle.dps_examples.specs.Examples.{tells}
use Rattle.dps_process.proofs.RunBeginnings.{config, one_part, one_part_ends, none_run, IsStill}

module _ (M : Model) (S : Signature) (T : Theory) where
  nil_runs : (frame : List Tree) (word : List Label) (d : Config) → Runs M S T (config (nil ∷ []) frame) word d → IsStill M S T frame word d
  nil_runs frame [] d r = elim (one_part_ends M S T r) [ inl e ↦ (refl, e) | inr s ↦ none_run M S T s ]
  nil_runs frame (label ∷ word) d r = elim (one_part M S T r) [ inl s ↦ none_run M S T s | inr s ↦ absurd s ]

  -- nothing, or the output's label and its value
  abbrev pub IsOutputTrace : ℕ → Tree → List Label → List Tree → Type 0
  IsOutputTrace ch u word frame = ((word ≡ []) × (frame ≡ [])) ⊎ ((t : Tree) × Evaluates T u t × (word ≡ outputs ch 1 ∷ []) × (frame ≡ t ∷ []))

  pub output_runs : (ch : ℕ) (u : Tree) (word : List Label) (d : Config) → Runs M S T (config (output ch u nil ∷ []) []) word d → IsOutputTrace ch u word d.frame
  output_runs ch u [] d r = elim (one_part_ends M S T r) [ inl e ↦ inl (refl, e) | inr s ↦ absurd s ]
  output_runs ch u (inputs e m ∷ word) d r = elim (one_part M S T r) [ inl s ↦ absurd s | inr s ↦ absurd s ]
  output_runs ch u (overhears e j ∷ word) d r = elim (one_part M S T r) [ inl s ↦ absurd s | inr s ↦ absurd s ]
  output_runs ch u (outputs e j ∷ word) d r = elim (one_part M S T r) [
    | inl s ↦ absurd s
    | inr s ↦ let still = nil_runs (s.0 ∷ []) word d s.5 in inr (s.0, s.3, (λ i. outputs (s.1 i) (s.4 i) ∷ still.0 i), still.1)
  ]

  pub output_traces : (ch : ℕ) (u : Tree) (word : List Label) (frame : List Tree) → IsTrace M S T (output ch u nil) word frame → IsOutputTrace ch u word frame
  output_traces ch u word frame t = subst (IsOutputTrace ch u word) t.2 (output_runs ch u word t.0 t.1)

-- A value that stays as it is, put out on a.
pub one_output : (M : Model) (u : Tree) → Evaluates theory u u → IsTrace M signature theory (tells u) (outputs 0 1 ∷ []) (u ∷ [])
one_output M u stays =
    (record { parts = nil ∷ []; frame = u ∷ [] }, visibly (alone here (sends (codes "a", refl) stays refl) refl refl) done, refl)

-- where a plain term is put out, the frame holds just that
pub told_alone : (M : Model) (u : Tree) (frame : List Tree) → IsPlain theory.shapes u → IsOutputTrace M signature theory 0 u (outputs 0 1 ∷ []) frame → frame ≡ u ∷ []
told_alone M u frame p (inl h) = absurd (let e : outputs 0 1 ∷ [] ≡ [] = h.0 in cc)
told_alone M u frame p (inr h) = h.3 ∙ ap (λ t. t ∷ []) (plain_alone theory h.1 p)

pub b_told : (M : Model) (frame : List Tree) → IsTrace M signature theory (tells b) (outputs 0 1 ∷ []) frame → frame ≡ b ∷ []
b_told M frame t = told_alone M b frame tt (output_traces M signature theory 0 b (outputs 0 1 ∷ []) frame t)
