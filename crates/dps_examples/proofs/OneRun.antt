-- Runs of single processes that are there.
use Rattle.std.proofs.Common.{ℕ, ◌≤◌, [], ◌∷◌, refl, arith}
use Rattle.std.specs.Prelude.{codes}
use Rattle.dps_signature.specs.declared.SymKind.TheVariants.{Constructor, Destructor}
use Rattle.dps_terms.specs.declared.PublicName.TheVariants.{At}
use Rattle.dps_terms.specs.Tree.{public, ax, Tree, leaf}
use Rattle.dps_signature.specs.Kinds.{IsRecipe}
use Rattle.dps_theory.specs.Evaluation.{Evaluates, named}
use Rattle.dps_theory.specs.Frames.{HasValue}
use Rattle.dps_theory.specs.Examples.{theory, over, senc, sdec, a, b}
use Rattle.dps_theory.proofs.Encryption.{opens, no_ciphertext}
use Rattle.dps_process.specs.Models.{Model, Private, Classic, Eavesdrop, MayMeet}
use Rattle.dps_process.specs.Process.{nil}
use Rattle.dps_process.specs.Steps.{start, inputs, outputs, here, there, splits, first, second, binds, binds_not, receives, sends, meets, alone, together}
use Rattle.dps_process.specs.Traces.{Runs, done, silently, visibly, IsTrace}
use Rattle.dps_examples.specs.Examples.{tells}
use Rattle.dps_examples.specs.Runs.{channels, echo, two_then_echo, got_and_sent, got, HasTheTrace}
use Rattle.dps_examples.specs.declared.runs.Run.TheVariants.{Stop, OwnName, ComputedInput, KnownHandle, FirstHandle, SecondHandle, ComputedOutput}
use Rattle.dps_examples.specs.declared.runs.Run.TheVariants.{Communication, SenderGoesOn, ThirdPart, TwoOutputs, FirstChoice, SecondChoice, OuterVariable, InnerVariable}
use Rattle.dps_process.proofs.RunBeginnings.{config}

-- parts communicate unseen on d in each model
on_d : (model : Model) → MayMeet model channels 2
on_d Private = (codes "d", refl)
on_d Classic = tt
on_d Eavesdrop = (codes "d", refl)

-- a name that is put out on a
told : (model : Model) (t : Tree) → Evaluates theory t t → Runs model channels theory (config (tells t ∷ []) []) got (config (nil ∷ []) (t ∷ []))
told model t e = visibly (alone here (sends (codes "a", refl) e refl) refl refl) done

pub stop : HasTheTrace Stop
stop model = (start (tells a), done, refl)

pub own_name : HasTheTrace OwnName
own_name model =
    let r = told model (leaf (public (At 0))) (named tt) in
    (config (nil ∷ []) (leaf (public (At 0)) ∷ []), visibly (alone here (receives (codes "a", refl) tt (named tt)) refl refl) r, refl)

pub computed_input : HasTheTrace ComputedInput
computed_input model =
    let recipe : IsRecipe channels 0 (over sdec (over senc a b) b) = ((Destructor, refl), (((Constructor, refl), ((codes "a", refl), ((codes "b", refl), tt))), ((codes "b", refl), tt))) in
    (config (nil ∷ []) (a ∷ []), visibly (alone here (receives (codes "a", refl) recipe opens) refl refl) (told model a (named tt)), refl)

pub known_handle : HasTheTrace KnownHandle
known_handle model = (
  config (nil ∷ []) (a ∷ []),
  visibly (alone here (sends (codes "a", refl) (named tt) refl) refl refl)
      (visibly (alone here (receives (codes "a", refl) (omega arith, omega arith) (named tt)) refl refl) done),
  refl,
)

-- after two outputs the attacker sends one of the two messages, and gets it back
echoed :
    (model : Model) (j : ℕ) (t : Tree) → 1 ≤ j → j ≤ 2 → HasValue theory (a ∷ b ∷ []) (leaf (ax j)) t → Evaluates theory t t
    → IsTrace model channels theory two_then_echo (got_and_sent (leaf (ax j))) (a ∷ b ∷ t ∷ [])
echoed model j t low high v e =
    let last : Runs model channels theory (config (tells t ∷ []) (a ∷ b ∷ [])) (outputs 0 3 ∷ []) (config (nil ∷ []) (a ∷ b ∷ t ∷ [])) =
    visibly (alone here (sends (codes "a", refl) e refl) refl refl) done in
    let sent : Runs model channels theory (config (echo ∷ []) (a ∷ b ∷ [])) (inputs 0 (leaf (ax j)) ∷ outputs 0 3 ∷ []) (config (nil ∷ []) (a ∷ b ∷ t ∷ [])) =
    visibly (alone here (receives (codes "a", refl) (low, high) v) refl refl) last in (
      config (nil ∷ []) (a ∷ b ∷ t ∷ []),
      visibly (alone here (sends (codes "a", refl) (named tt) refl) refl refl) (visibly (alone here (sends (codes "a", refl) (named tt) refl) refl refl) sent),
      refl,
    )

pub first_handle : HasTheTrace FirstHandle
first_handle model = echoed model 1 a (omega arith) (omega arith) (named tt) (named tt)

pub second_handle : HasTheTrace SecondHandle
second_handle model = echoed model 2 b (omega arith) (omega arith) (named tt) (named tt)

pub computed_output : HasTheTrace ComputedOutput
computed_output model = (config (nil ∷ []) (a ∷ []), visibly (alone here (sends (codes "a", refl) opens refl) refl refl) done, refl)

pub communication : HasTheTrace Communication
communication model = (
  config (nil ∷ nil ∷ []) (a ∷ []),
  silently (alone here splits refl refl)
      (silently (together (there here) here (meets (on_d model) (named tt)) refl refl) (visibly (alone (there here) (sends (codes "a", refl) (named tt) refl) refl refl) done)),
  refl,
)

pub sender_goes_on : HasTheTrace SenderGoesOn
sender_goes_on model = (
  config (nil ∷ nil ∷ []) (b ∷ []),
  silently (alone here splits refl refl)
      (silently (together here here (meets (on_d model) (named tt)) refl refl) (visibly (alone here (sends (codes "a", refl) (named tt) refl) refl refl) done)),
  refl,
)

pub third_part : HasTheTrace ThirdPart
third_part model =
    let outputs_run : Runs model channels theory (config (nil ∷ tells a ∷ tells b ∷ []) []) (outputs 0 1 ∷ outputs 0 2 ∷ []) (config (nil ∷ nil ∷ nil ∷ []) (a ∷ b ∷ [])) =
    visibly (alone (there here) (sends (codes "a", refl) (named tt) refl) refl refl) (visibly (alone (there (there here)) (sends (codes "a", refl) (named tt) refl) refl refl) done) in (
      config (nil ∷ nil ∷ nil ∷ []) (a ∷ b ∷ []),
      silently (alone here splits refl refl)
          (silently (alone here splits refl refl) (silently (together here here (meets (on_d model) (named tt)) refl refl) outputs_run)),
      refl,
    )

pub two_outputs : HasTheTrace TwoOutputs
two_outputs model = (
  config (nil ∷ nil ∷ []) (b ∷ a ∷ []),
  silently (alone here splits refl refl)
      (visibly (alone (there here) (sends (codes "a", refl) (named tt) refl) refl refl) (visibly (alone (there here) (sends (codes "a", refl) (named tt) refl) refl refl) done)),
  refl,
)

pub first_choice : HasTheTrace FirstChoice
first_choice model = (config (nil ∷ []) (a ∷ []), silently (alone here first refl refl) (told model a (named tt)), refl)

pub second_choice : HasTheTrace SecondChoice
second_choice model = (config (nil ∷ []) (a ∷ []), silently (alone here second refl refl) (told model a (named tt)), refl)

pub outer_variable : HasTheTrace OuterVariable
outer_variable model = (
  config (nil ∷ []) (b ∷ []),
  visibly (alone here (receives (codes "a", refl) (codes "b", refl) (named tt)) refl refl)
      (silently (alone here (binds_not no_ciphertext) refl refl) (told model b (named tt))),
  refl,
)

pub inner_variable : HasTheTrace InnerVariable
inner_variable model = (
  config (nil ∷ []) (a ∷ []),
  visibly (alone here (receives (codes "a", refl) (codes "b", refl) (named tt)) refl refl)
      (silently (alone here (binds (named tt)) refl refl) (told model a (named tt))),
  refl,
)
