-- Attacks on small processes.
use Rattle.std.proofs.Common.{◌≡◌, ℕ, List, [], ◌∷◌, refl, sym, ◌∙◌, subst, inl, inr, arith}
use Rattle.std.specs.Prelude.{codes}
use Rattle.dps_branch.specs.declared.Side.TheVariants.{Left, Right}
use Rattle.dps_terms.specs.Tree.{ax, Tree, leaf}
use Rattle.dps_theory.specs.Evaluation.{named}
use Rattle.dps_theory.specs.Frames.{HaveOneValue, AreStaticallyEquivalent}
use Rattle.dps_theory.specs.Examples.{signature, theory, a, b}
use Rattle.dps_theory.proofs.Equivalence.{symmetric}
use Rattle.dps_theory.proofs.Encryption.{plain_equal, different_results}
use Rattle.dps_process.specs.Models.{Model}
use Rattle.dps_process.specs.Process.{nil, choice, input, output}
use Rattle.dps_process.specs.Steps.{Config, inputs, outputs, here, second, passes, receives, alone}
use Rattle.dps_process.specs.Traces.{Runs, silently, visibly, IsTrace, IsAttack}
use Rattle.dps_examples.specs.Examples.{tells, tests, against}
use Rattle.dps_process.proofs.RunBeginnings.{config, one_part}
use Rattle.dps_examples.proofs.Outputs.{IsOutputTrace, output_runs, output_traces, one_output, told_alone, b_told}

-- the frame `b` is not that of `a`
not_alike : ¬ AreStaticallyEquivalent signature theory (a ∷ []) (b ∷ [])
not_alike e =
    let one : HaveOneValue theory (a ∷ []) (leaf (ax 1)) a = record { value = a; left = named tt; right = named tt } in
    different_results (sym (plain_equal theory b a tt tt ((e.same_equalities (leaf (ax 1)) a (omega arith, omega arith) (codes "a", refl)).0 one)))

module _ (M : Model) where
  pub names_attack : IsAttack (against M (tells a) (tells b)) Left (outputs 0 1 ∷ [])
  names_attack = record {
    frame = a ∷ [];
    trace = one_output M a (named tt);
    unmatched = λ m. not_alike (subst (λ (f : List Tree). AreStaticallyEquivalent signature theory (a ∷ []) f) (b_told M m.other m.trace) m.equivalent);
  }

  -- a process that gives a alone does not match one that gives b
  pub choice_attack : IsAttack (against M (tells a) (choice (tells a) (tells b))) Right (outputs 0 1 ∷ [])
  choice_attack =
      let t = one_output M b (named tt) in
      record {
        frame = b ∷ [];
        trace = (t.0, silently (alone here second refl refl) t.1, t.2);
        unmatched = λ m.
            (let e = told_alone M a m.other tt (output_traces M signature theory 0 a (outputs 0 1 ∷ []) m.other m.trace) in
            not_alike (symmetric signature theory (b ∷ []) (a ∷ []) (subst (λ (f : List Tree). AreStaticallyEquivalent signature theory (b ∷ []) f) e m.equivalent)));
      }

  other_label : (frame : List Tree) → IsOutputTrace M signature theory 1 a (outputs 0 1 ∷ []) frame → ⊥
  other_label frame (inl h) = let e : outputs 0 1 ∷ [] ≡ [] = h.0 in cc
  other_label frame (inr h) = let e : outputs 0 1 ≡ outputs 1 1 = (let f = h.2 in cc) in let g : ◌≡◌ {A = ℕ} 0 1 = cc in omega arith

  -- an output on a is not matched by one on b
  pub channel_attack : IsAttack (against M (tells a) (output 1 a nil)) Left (outputs 0 1 ∷ [])
  channel_attack = record {
    frame = a ∷ [];
    trace = one_output M a (named tt);
    unmatched = λ m. other_label m.other (output_traces M signature theory 1 a (outputs 0 1 ∷ []) m.other m.trace);
  }

  -- after its input the right side puts out b
  gives_b : (d : Config) → Runs M signature theory (config (input 0 1 (tells b) ∷ []) []) (inputs 0 a ∷ outputs 0 1 ∷ []) d → d.frame ≡ b ∷ []
  gives_b d r = elim (one_part M signature theory r) [
    | inl h ↦ absurd h
    | inr h ↦ told_alone M b d.frame tt (output_runs M signature theory 0 b (outputs 0 1 ∷ []) d h.5)
  ]

  test_unmatched : (frame : List Tree) → IsTrace M signature theory (input 0 1 (tells b)) (inputs 0 a ∷ outputs 0 1 ∷ []) frame → AreStaticallyEquivalent signature theory (a ∷ []) frame → ⊥
  test_unmatched frame t e =
      not_alike (subst (λ (f : List Tree). AreStaticallyEquivalent signature theory (a ∷ []) f) (sym t.2 ∙ gives_b t.0 t.1) e)

  -- the attacker passes a test of a public name
  pub test_attack : IsAttack (against M (tests a) (input 0 1 (tells b))) Left (inputs 0 a ∷ outputs 0 1 ∷ [])
  test_attack =
      let t = one_output M a (named tt) in
      record {
        frame = a ∷ [];
        trace = (
          t.0,
          visibly (alone here (receives (codes "a", refl) (codes "a", refl) (named tt)) refl refl)
              (silently (alone here (passes (record { value = a; left = named tt; right = named tt })) refl refl) t.1),
          t.2,
        );
        unmatched = λ m. test_unmatched m.other m.trace m.equivalent;
      }
