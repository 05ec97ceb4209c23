-- Runs that are not there.
use Rattle.std.proofs.Common.{◌≡◌, [], ◌∷◌, ap, inl, inr, arith}
use Rattle.std.specs.Prelude.{Bool, true, false, Option, Some}
use Rattle.std.specs.Option.{option_map}
use Rattle.dps_signature.specs.Signature.{Name, IsPublic}
use Rattle.dps_theory.specs.Examples.{theory, over, sdec, a, b, x}
use Rattle.dps_theory.proofs.Encryption.{no_ciphertext}
use Rattle.dps_process.specs.Process.{nil, input, output}
use Rattle.dps_process.specs.Steps.{Config}
use Rattle.dps_process.specs.Traces.{Runs}
use Rattle.dps_examples.specs.Examples.{tells}
use Rattle.dps_examples.specs.Runs.{channels, got, HasNoTrace}
use Rattle.dps_examples.specs.declared.runs.Run.TheVariants.{PrivateName, PrivateDeclared, FailedInput, PrivateInput, OtherInput, UnknownHandle, WrongHandle, PrivateOutput}
use Rattle.dps_examples.specs.declared.runs.Run.TheVariants.{NoReceiver, NoSender, FailedOutput, OtherChannel, FailedCommunication, ThreeOutputs, BothChoices}
use Rattle.dps_process.proofs.RunBeginnings.{config, one_part, two_parts}
use Rattle.dps_examples.proofs.Counting.{run_shows}

-- d is not public
is_private_of : Option Name → Option Bool
is_private_of o = option_map (λ (n : Name). n.is_private) o

not_public : ¬ IsPublic channels 2
unfolding is_private_of
not_public h = let e : ◌≡◌ {A = Option Bool} (Some true) (Some false) = ap is_private_of h.1 in cc

pub private_name : HasNoTrace PrivateName
private_name model frame t = elim (one_part model channels theory t.1) [ inl h ↦ h | inr h ↦ h.3 ]

pub private_declared : HasNoTrace PrivateDeclared
private_declared model frame t = elim (one_part model channels theory t.1) [ inl h ↦ h | inr h ↦ not_public h.3 ]

pub failed_input : HasNoTrace FailedInput
failed_input model frame t = elim (one_part model channels theory t.1) [ inl h ↦ h | inr h ↦ no_ciphertext (h.0, h.4) ]

pub private_input : HasNoTrace PrivateInput
private_input model frame t = elim (one_part model channels theory t.1) [ inl h ↦ h | inr h ↦ not_public h.2 ]

pub other_input : HasNoTrace OtherInput
other_input model frame t = elim (one_part model channels theory t.1) [ inl h ↦ h | inr h ↦ let e = h.1 in omega arith ]

pub unknown_handle : HasNoTrace UnknownHandle
unknown_handle model frame t =
    elim (one_part model channels theory t.1) [ inl h ↦ h | inr h ↦ elim (one_part model channels theory h.5) [ inl l ↦ l | inr l ↦ let low = l.3.1 in omega arith ] ]

pub wrong_handle : HasNoTrace WrongHandle
wrong_handle model frame t = elim (one_part model channels theory t.1) [ inl h ↦ h | inr h ↦ let e = h.4 in omega arith ]

pub private_output : HasNoTrace PrivateOutput
private_output model frame t = elim (one_part model channels theory t.1) [ inl h ↦ h | inr h ↦ not_public h.2 ]

pub no_receiver : HasNoTrace NoReceiver
no_receiver model frame t = elim (one_part model channels theory t.1) [ inl h ↦ h | inr h ↦ let e = h.1 in omega arith ]

pub no_sender : HasNoTrace NoSender
no_sender model frame t = elim (one_part model channels theory t.1) [ inl h ↦ h | inr h ↦ h ]

pub failed_output : HasNoTrace FailedOutput
failed_output model frame t = elim (one_part model channels theory t.1) [ inl h ↦ h | inr h ↦ no_ciphertext (h.0, h.3) ]

pub other_channel : HasNoTrace OtherChannel
other_channel model frame t =
    elim (one_part model channels theory t.1) [ inl h ↦ stuck t.0 h | inr h ↦ h ]
  where
    stuck : (d : Config) → Runs model channels theory (config (input 1 1 (tells x) ∷ output 2 a nil ∷ []) []) got d → ⊥
    stuck d r = elim (two_parts model channels theory r) [
      | inl (inl (inl h)) ↦ h
      | inl (inl (inr h)) ↦ h
      | inl (inr (inl h)) ↦ h
      | inl (inr (inr h)) ↦ let e = h.1 in omega arith
      | inr (inl (inl h)) ↦ h
      | inr (inr (inl h)) ↦ h
      | inr (inr (inr h)) ↦ h
      | inr (inl (inr h)) ↦ let e = h.1 in omega arith
    ]

pub failed_communication : HasNoTrace FailedCommunication
failed_communication model frame t =
    elim (one_part model channels theory t.1) [ inl h ↦ stuck t.0 h | inr h ↦ h ]
  where
    stuck : (d : Config) → Runs model channels theory (config (input 2 1 (tells x) ∷ output 2 (over sdec a b) nil ∷ []) []) got d → ⊥
    stuck d r = elim (two_parts model channels theory r) [
      | inl (inl (inl h)) ↦ h
      | inl (inl (inr h)) ↦ h
      | inl (inr (inl h)) ↦ h
      | inl (inr (inr h)) ↦ let e = h.1 in omega arith
      | inr (inl (inl h)) ↦ h
      | inr (inr (inl h)) ↦ h
      | inr (inr (inr h)) ↦ h
      | inr (inl (inr h)) ↦ no_ciphertext (h.0, h.3)
    ]

pub three_outputs : HasNoTrace ThreeOutputs
three_outputs model frame t = let l = run_shows model channels theory t.1 in omega arith

pub both_choices : HasNoTrace BothChoices
both_choices model frame t = elim (one_part model channels theory t.1) [
  | inl (inl h) ↦ let l = run_shows model channels theory h in omega arith
  | inl (inr h) ↦ let l = run_shows model channels theory h in omega arith
  | inr h ↦ h
]
