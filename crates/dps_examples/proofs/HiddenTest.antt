-- A test of a private name that the attacker never has: it is as if it always failed.
use Rattle.std.proofs.Common.{◌≡◌, List, [], ◌∷◌, refl, sym, subst, inl, inr, arith}
use Rattle.std.specs.Prelude.{codes}
use Rattle.dps_terms.specs.Tree.{Leaf, public, private, var, ax, entry, rigid, Tree, leaf, StandsIn, itself}
use Rattle.dps_terms.specs.Replace.{in_frame, handles_to}
use Rattle.dps_signature.specs.Signature.{HasArity, shapes}
use Rattle.dps_signature.specs.Kinds.{IsRecipe, IsRecipeLeaf}
use Rattle.dps_terms.proofs.Replacing.{replace_stays}
use Rattle.dps_terms.proofs.Building.{leaf_meets}
use Rattle.dps_theory.specs.Theory.{Rule}
use Rattle.dps_theory.specs.Evaluation.{AreEqual}
use Rattle.dps_theory.specs.Frames.{HasValue}
use Rattle.dps_theory.specs.Examples.{signature, theory, decryption, a, b, k}
use Rattle.dps_theory.proofs.Evaluating.{value_plain}
use Rattle.dps_theory.proofs.Leaves.{leaf_of_value}
use Rattle.dps_theory.proofs.Encryption.{one_rule, decryption_accepted, decryption_plain, plain_equal}
use Rattle.dps_process.specs.Models.{Model}
use Rattle.dps_process.specs.Process.{Process, conditional, input}
use Rattle.dps_process.specs.Steps.{Config, start, Label, inputs, outputs, overhears, here, fails, receives, alone}
use Rattle.dps_process.specs.Traces.{Runs, done, silently, visibly, Ends, IsTrace, IsEquivalent}
use Rattle.dps_examples.specs.Examples.{tells, tests, against}
use Rattle.dps_process.proofs.TraceEquivalence.{same_traces}
use Rattle.dps_process.proofs.RunBeginnings.{config, one_part, one_part_ends}

-- over the empty frame a recipe is a term without private names
no_handle : (l : Leaf) → IsRecipeLeaf signature 0 l → handles_to [] l ≡ leaf l
no_handle (public m) h = refl
no_handle (private m) h = refl
no_handle (var m) h = refl
no_handle (ax j) h = absurd (let low = h.0 in let high = h.1 in omega arith)
no_handle (entry m) h = refl
no_handle (rigid m) h = refl

recipe_stays : (r : Tree) → IsRecipe signature 0 r → in_frame [] r ≡ r
recipe_stays r h = replace_stays (handles_to []) r (λ l s. no_handle l (leaf_meets (IsRecipeLeaf signature 0) (HasArity (shapes signature)) h s))

not_in_rule : StandsIn (private 0) decryption.right → ⊥
not_in_rule s = elim s [ ]

no_private_name : (r v : Tree) → IsRecipe signature 0 r → HasValue theory [] r v → v ≡ k → ⊥
no_private_name r v h e same =
    elim (leaf_of_value theory decryption_accepted (private 0) e (subst (λ (t : Tree). StandsIn (private 0) t) (sym same) itself)) [
      | inl s ↦ leaf_meets (IsRecipeLeaf signature 0) (HasArity (shapes signature)) h (subst (λ (t : Tree). StandsIn (private 0) t) (recipe_stays r h) s)
      | inr q ↦ not_in_rule (subst (λ (u : Rule). StandsIn (private 0) u.right) (sym (one_rule q.0 q.1)) q.2)
    ]

-- so the test fails
not_k : (r t : Tree) → IsRecipe signature 0 r → HasValue theory [] r t → ¬ AreEqual theory t k
not_k r t h e same = no_private_name r t h e (plain_equal theory t k (value_plain theory decryption_accepted decryption_plain e) tt same)

abbrev tested : Process
tested = tests k

abbrev untested : Process
untested = input 0 1 (tells b)

module _ (M : Model) where
  -- a test that fails, and what comes then
  after_test :
      (t : Tree) (word : List Label) (d : Config) → ¬ AreEqual theory t k
      → Runs M signature theory (config (conditional t k (tells a) (tells b) ∷ []) []) word d
      → Ends M signature theory (config (tells b ∷ []) []) word d.frame
  after_test t [] d h r = elim (one_part_ends M signature theory r) [
    | inl e ↦ (config (tells b ∷ []) [], done, sym e)
    | inr (inl p) ↦ absurd (h p.0)
    | inr (inr p) ↦ (d, p.1, refl)
  ]
  after_test t (label ∷ word) d h r = elim (one_part M signature theory r) [
    | inl (inl p) ↦ absurd (h p.0)
    | inl (inr p) ↦ (d, p.1, refl)
    | inr p ↦ absurd p
  ]

  to_untested : (word : List Label) (d : Config) → Runs M signature theory (start tested) word d → IsTrace M signature theory untested word d.frame
  to_untested [] d r = elim (one_part_ends M signature theory r) [ inl e ↦ (start untested, done, sym e) | inr p ↦ absurd p ]
  to_untested (inputs c m ∷ word) d r = elim (one_part M signature theory r) [
    | inl p ↦ absurd p
    | inr p ↦
        let then = after_test p.0 word d (not_k m p.0 p.3 p.4) p.5 in
        let run : Runs M signature theory (start untested) (inputs 0 m ∷ word) then.0 = visibly (alone here (receives (codes "a", refl) p.3 p.4) refl refl) then.1 in
        (then.0, subst (λ e. Runs M signature theory (start untested) (inputs e m ∷ word) then.0) (sym p.1) run, then.2)
  ]
  to_untested (outputs c j ∷ word) d r = elim (one_part M signature theory r) [ inl p ↦ absurd p | inr p ↦ absurd p ]
  to_untested (overhears c j ∷ word) d r = elim (one_part M signature theory r) [ inl p ↦ absurd p | inr p ↦ absurd p ]

  to_tested : (word : List Label) (d : Config) → Runs M signature theory (start untested) word d → IsTrace M signature theory tested word d.frame
  to_tested [] d r = elim (one_part_ends M signature theory r) [ inl e ↦ (start tested, done, sym e) | inr p ↦ absurd p ]
  to_tested (inputs c m ∷ word) d r = elim (one_part M signature theory r) [
    | inl p ↦ absurd p
    | inr p ↦
        let run : Runs M signature theory (start tested) (inputs 0 m ∷ word) d = visibly (alone here (receives (codes "a", refl) p.3 p.4) refl refl)
        (silently (alone here (fails (not_k m p.0 p.3 p.4)) refl refl) p.5) in
        (d, subst (λ e. Runs M signature theory (start tested) (inputs e m ∷ word) d) (sym p.1) run, refl)
  ]
  to_tested (outputs c j ∷ word) d r = elim (one_part M signature theory r) [ inl p ↦ absurd p | inr p ↦ absurd p ]
  to_tested (overhears c j ∷ word) d r = elim (one_part M signature theory r) [ inl p ↦ absurd p | inr p ↦ absurd p ]

  pub private_test_equivalent : IsEquivalent (against M tested untested)
  private_test_equivalent = record {
    forth = same_traces M signature theory tested untested (λ word frame t. subst (IsTrace M signature theory untested word) t.2 (to_untested word t.0 t.1));
    back = same_traces M signature theory untested tested (λ word frame t. subst (IsTrace M signature theory tested word) t.2 (to_tested word t.0 t.1));
  }
