-- An output behind a communication that is unseen in the classic model alone.
use Rattle.std.proofs.Common.{◌≡◌, List, [], ◌∷◌, refl, sym, ◌∙◌, ap, subst, inl, inr, arith}
use Rattle.std.specs.Prelude.{◌≢◌, Bool, true, false, Option, Some, codes}
use Rattle.std.specs.Option.{option_map}
use Rattle.dps_branch.specs.declared.Side.TheVariants.{Right}
use Rattle.dps_terms.specs.Tree.{Tree}
use Rattle.dps_signature.specs.Signature.{Name, IsPrivate}
use Rattle.dps_theory.specs.Evaluation.{named}
use Rattle.dps_theory.specs.Examples.{signature, theory, a, b}
use Rattle.dps_theory.proofs.Evaluating.{plain_alone}
use Rattle.dps_process.specs.Models.{Model, Private, Classic, Eavesdrop, MayMeet}
use Rattle.dps_process.specs.Process.{Process, nil, choice, input, output}
use Rattle.dps_process.specs.Steps.{Config, start, Label, outputs, here, there, splits, first, second, sends, meets, alone, together}
use Rattle.dps_process.specs.Traces.{Runs, done, silently, visibly, IsTrace, IsEquivalent, IsAttack}
use Rattle.dps_process.proofs.RunBeginnings.{config, one_part, two_parts}
use Rattle.dps_process.proofs.SilentParts.{choice_is_either}
use Rattle.dps_process.proofs.TraceEquivalence.{same_traces}
use Rattle.dps_examples.specs.Differences.{waits, differing, telling}
use Rattle.dps_examples.specs.declared.models.Difference.TheVariants.{UnseenFirst}
use Rattle.dps_examples.proofs.Outputs.{IsOutputTrace, output_traces}

abbrev other : Process
other = output 1 b nil

-- a is not private
is_private_of : Option Name → Option Bool
is_private_of o = option_map (λ (n : Name). n.is_private) o

not_private : ¬ IsPrivate signature 0
unfolding is_private_of
not_private h = let e : ◌≡◌ {A = Option Bool} (Some false) (Some true) = ap is_private_of h.1 in cc

no_meeting : (model : Model) → model ≢ Classic → ¬ MayMeet model signature 0
no_meeting Private d h = not_private h
no_meeting Classic d h = d refl
no_meeting Eavesdrop d h = not_private h

-- where the communication is seen, the first process has no such trace
waiting : (model : Model) → model ≢ Classic → (frame : List Tree) → ¬ IsTrace model signature theory waits (telling UnseenFirst) frame
waiting model apart frame t =
    elim (one_part model signature theory t.1) [ inl h ↦ stuck t.0 h | inr h ↦ h ]
  where
    stuck : (d : Config) → Runs model signature theory (config (output 0 a nil ∷ input 0 1 other ∷ []) []) (outputs 1 1 ∷ []) d → ⊥
    stuck d r = elim (two_parts model signature theory r) [
      | inl (inl (inl h)) ↦ h
      | inl (inl (inr h)) ↦ let e = h.1 in omega arith
      | inl (inr (inl h)) ↦ h
      | inl (inr (inr h)) ↦ h
      | inr (inl (inl h)) ↦ no_meeting model apart h.2
      | inr (inl (inr h)) ↦ h
      | inr (inr (inl h)) ↦ h
      | inr (inr (inr h)) ↦ h
    ]

-- the second one has it
told : (model : Model) → IsTrace model signature theory (choice waits other) (telling UnseenFirst) (b ∷ [])
told model = (config (nil ∷ []) (b ∷ []), silently (alone here second refl refl) (visibly (alone here (sends (codes "b", refl) (named tt) refl) refl refl) done), refl)

pub unseen_attack : (model : Model) → model ≢ Classic → IsAttack (differing model UnseenFirst) Right (telling UnseenFirst)
unseen_attack model apart = record { frame = b ∷ []; trace = told model; unmatched = λ m. waiting model apart m.other m.trace }

-- in the classic model the first process has the second one's traces
met : IsTrace Classic signature theory waits (outputs 1 1 ∷ []) (b ∷ [])
met = (
  config (nil ∷ nil ∷ []) (b ∷ []),
  silently (alone here splits refl refl)
      (silently (together here here (meets tt (named tt)) refl refl) (visibly (alone (there here) (sends (codes "b", refl) (named tt) refl) refl refl) done)),
  refl,
)

from_other : (word : List Label) (frame : List Tree) → IsOutputTrace Classic signature theory 1 b word frame → IsTrace Classic signature theory waits word frame
from_other word frame (inl h) = (start waits, subst (λ (w : List Label). Runs Classic signature theory (start waits) w (start waits)) (sym h.0) done, sym h.1)
from_other word frame (inr h) =
    let value : frame ≡ b ∷ [] = h.3 ∙ ap (λ t. t ∷ []) (plain_alone theory h.1 tt) in
    subst (λ (f : List Tree). IsTrace Classic signature theory waits word f) (sym value) (subst (λ (w : List Label). IsTrace Classic signature theory waits w (b ∷ [])) (sym h.2) met)

back : (word : List Label) (frame : List Tree) → IsTrace Classic signature theory (choice waits other) word frame → IsTrace Classic signature theory waits word frame
back word frame t =
    elim (((choice_is_either Classic signature theory waits other (record { parts = []; frame = [] })).same word frame).0 t) [
      | inl e ↦ e
      | inr e ↦ from_other word frame (output_traces Classic signature theory 1 b word frame e)
    ]

pub unseen_alike : IsEquivalent (differing Classic UnseenFirst)
unseen_alike = record {
  forth = same_traces Classic signature theory waits (choice waits other) (λ word frame t. (t.0, silently (alone here first refl refl) t.1, t.2));
  back = same_traces Classic signature theory (choice waits other) waits back;
}
