-- What two parts communicate, unseen or overheard.
use Rattle.std.proofs.Common.{◌≡◌, ℕ, List, [], ◌∷◌, refl, ap, inl, inr, arith}
use Rattle.std.specs.Prelude.{◌≢◌, Bool, true, false, Option, Some, codes, All}
use Rattle.std.specs.Option.{option_map}
use Rattle.std.proofs.lemmas.List.Elements.{All-head, All-tail}
use Rattle.dps_signature.specs.Signature.{Name, IsPublic, IsPrivate}
use Rattle.dps_theory.specs.Evaluation.{named}
use Rattle.dps_theory.specs.Examples.{theory, over, sdec, a, b, x}
use Rattle.dps_theory.proofs.Encryption.{opens, no_ciphertext}
use Rattle.dps_process.specs.Models.{Model, Private, Classic, Eavesdrop, MayMeet}
use Rattle.dps_process.specs.Process.{nil, input, output}
use Rattle.dps_process.specs.Steps.{Config, Label, outputs, overhears, here, there, splits, sends, meets, overheard, alone, together}
use Rattle.dps_process.specs.Traces.{Runs, done, silently, visibly, IsTrace}
use Rattle.dps_process.specs.Laws.{IsUnheard}
use Rattle.dps_process.proofs.RunBeginnings.{config, one_part, two_parts}
use Rattle.dps_process.proofs.Unheard.{only_eavesdrop_overhears}
use Rattle.dps_process.proofs.LabelsInOrder.{traces_have_lawful_labels}
use Rattle.dps_examples.specs.Examples.{tells}
use Rattle.dps_examples.specs.Runs.{channels}
use Rattle.dps_examples.specs.Differences.{exchanging, labels_of, HasNoTraceIn, IsInNoModel, IsInOneModel}
use Rattle.dps_examples.specs.declared.models.ModelName.TheVariants.{Classic as ClassicName, Eavesdrop as EavesdropName}
use Rattle.dps_examples.specs.declared.models.Exchange.TheVariants.{UnseenInPublic, Overheard, SenderGoesOn, OverheardLater, OverheardValue, WrongHandle, PrivateChannel, OtherChannel, NoMessage}

-- b is not private, and d is not public
is_private_of : Option Name → Option Bool
is_private_of o = option_map (λ (n : Name). n.is_private) o

not_private : ¬ IsPrivate channels 1
unfolding is_private_of
not_private h = let e : ◌≡◌ {A = Option Bool} (Some false) (Some true) = ap is_private_of h.1 in cc

not_public : ¬ IsPublic channels 2
unfolding is_private_of
not_public h = let e : ◌≡◌ {A = Option Bool} (Some true) (Some false) = ap is_private_of h.1 in cc

no_meeting : (model : Model) → model ≢ Classic → ¬ MayMeet model channels 1
no_meeting Private d h = not_private h
no_meeting Classic d h = d refl
no_meeting Eavesdrop d h = not_private h

unseen : IsTrace Classic channels theory (exchanging UnseenInPublic) (labels_of UnseenInPublic) (a ∷ [])
unseen = (
  config (nil ∷ nil ∷ []) (a ∷ []),
  silently (alone here splits refl refl)
      (silently (together (there here) here (meets tt (named tt)) refl refl) (visibly (alone (there here) (sends (codes "a", refl) (named tt) refl) refl refl) done)),
  refl,
)

not_unseen : (model : Model) → model ≢ Classic → HasNoTraceIn model UnseenInPublic
not_unseen model other frame t =
    elim (one_part model channels theory t.1) [ inl h ↦ stuck t.0 h | inr h ↦ h ]
  where
    stuck : (d : Config) → Runs model channels theory (config (input 1 1 (tells x) ∷ output 1 a nil ∷ []) []) (outputs 0 1 ∷ []) d → ⊥
    stuck d r = elim (two_parts model channels theory r) [
      | inl (inl (inl h)) ↦ h
      | inl (inl (inr h)) ↦ h
      | inl (inr (inl h)) ↦ h
      | inl (inr (inr h)) ↦ let e = h.1 in omega arith
      | inr (inl (inl h)) ↦ h
      | inr (inl (inr h)) ↦ no_meeting model other h.2
      | inr (inr (inl h)) ↦ h
      | inr (inr (inr h)) ↦ h
    ]

pub unseen_in_public : IsInOneModel UnseenInPublic ClassicName
unseen_in_public = (unseen, not_unseen)

-- labels of which one is overheard are those of the eavesdrop model alone
first_heard : (c j : ℕ) (word : List Label) → All IsUnheard (overhears c j ∷ word) → ⊥
first_heard c j word h = All-head IsUnheard (overhears c j) word h

overheard_run : IsTrace Eavesdrop channels theory (exchanging Overheard) (labels_of Overheard) (a ∷ a ∷ [])
overheard_run = (
  config (nil ∷ nil ∷ []) (a ∷ a ∷ []),
  silently (alone here splits refl refl)
      (visibly (together (there here) here (overheard (codes "b", refl) (named tt) refl) refl refl) (visibly (alone (there here) (sends (codes "a", refl) (named tt) refl) refl refl) done)),
  refl,
)

pub is_overheard : IsInOneModel Overheard EavesdropName
is_overheard = (overheard_run, λ other d frame t. first_heard 1 1 (outputs 0 2 ∷ []) (only_eavesdrop_overhears other channels theory (exchanging Overheard) (labels_of Overheard) frame d t))

sender_run : IsTrace Eavesdrop channels theory (exchanging SenderGoesOn) (labels_of SenderGoesOn) (a ∷ b ∷ [])
sender_run = (
  config (nil ∷ nil ∷ []) (a ∷ b ∷ []),
  silently (alone here splits refl refl)
      (visibly (together here here (overheard (codes "b", refl) (named tt) refl) refl refl) (visibly (alone here (sends (codes "a", refl) (named tt) refl) refl refl) done)),
  refl,
)

pub sender_goes_on : IsInOneModel SenderGoesOn EavesdropName
sender_goes_on = (sender_run, λ other d frame t. first_heard 1 1 (outputs 0 2 ∷ []) (only_eavesdrop_overhears other channels theory (exchanging SenderGoesOn) (labels_of SenderGoesOn) frame d t))

later_run : IsTrace Eavesdrop channels theory (exchanging OverheardLater) (labels_of OverheardLater) (b ∷ a ∷ [])
later_run = (
  config (nil ∷ nil ∷ []) (b ∷ a ∷ []),
  silently (alone here splits refl refl)
      (visibly (alone here (sends (codes "a", refl) (named tt) refl) refl refl) (visibly (together here here (overheard (codes "b", refl) (named tt) refl) refl refl) done)),
  refl,
)

pub overheard_later : IsInOneModel OverheardLater EavesdropName
overheard_later = (
  later_run,
  λ other d frame t. first_heard 1 2 []
      (All-tail IsUnheard (outputs 0 1) (overhears 1 2 ∷ []) (only_eavesdrop_overhears other channels theory (exchanging OverheardLater) (labels_of OverheardLater) frame d t)),
)

value_run : IsTrace Eavesdrop channels theory (exchanging OverheardValue) (labels_of OverheardValue) (a ∷ [])
value_run =
    (config (nil ∷ nil ∷ []) (a ∷ []), silently (alone here splits refl refl) (visibly (together (there here) here (overheard (codes "b", refl) opens refl) refl refl) done), refl)

pub overheard_value : IsInOneModel OverheardValue EavesdropName
overheard_value = (value_run, λ other d frame t. first_heard 1 1 [] (only_eavesdrop_overhears other channels theory (exchanging OverheardValue) (labels_of OverheardValue) frame d t))

pub wrong_handle : IsInNoModel WrongHandle
wrong_handle model frame t = let h = traces_have_lawful_labels model channels theory (exchanging WrongHandle) (labels_of WrongHandle) frame t in let e = h.1 in omega arith

pub private_channel : IsInNoModel PrivateChannel
private_channel model frame t = not_public (traces_have_lawful_labels model channels theory (exchanging PrivateChannel) (labels_of PrivateChannel) frame t).0

pub other_channel : IsInNoModel OtherChannel
other_channel model frame t =
    elim (one_part model channels theory t.1) [ inl h ↦ stuck t.0 h | inr h ↦ h ]
  where
    stuck : (d : Config) → Runs model channels theory (config (input 1 1 nil ∷ output 0 a nil ∷ []) []) (overhears 1 1 ∷ []) d → ⊥
    stuck d r = elim (two_parts model channels theory r) [
      | inl (inl (inl h)) ↦ h
      | inl (inl (inr h)) ↦ h
      | inl (inr (inl h)) ↦ h
      | inl (inr (inr h)) ↦ h
      | inr (inl (inl h)) ↦ h
      | inr (inl (inr h)) ↦ let e = h.1 in omega arith
      | inr (inr (inl h)) ↦ h
      | inr (inr (inr h)) ↦ let e = h.1 in omega arith
    ]

pub no_message : IsInNoModel NoMessage
no_message model frame t =
    elim (one_part model channels theory t.1) [ inl h ↦ stuck t.0 h | inr h ↦ h ]
  where
    stuck : (d : Config) → Runs model channels theory (config (input 1 1 nil ∷ output 1 (over sdec a b) nil ∷ []) []) (overhears 1 1 ∷ []) d → ⊥
    stuck d r = elim (two_parts model channels theory r) [
      | inl (inl (inl h)) ↦ h
      | inl (inl (inr h)) ↦ h
      | inl (inr (inl h)) ↦ h
      | inl (inr (inr h)) ↦ h
      | inr (inl (inl h)) ↦ h
      | inr (inl (inr h)) ↦ no_ciphertext (h.0, h.3)
      | inr (inr (inl h)) ↦ h
      | inr (inr (inr h)) ↦ no_ciphertext (h.0, h.4)
    ]
