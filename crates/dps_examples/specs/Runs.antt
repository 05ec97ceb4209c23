-- Small processes and labels of their runs, over the signature and the theory of symmetric encryption. Its text is
--   free a, b.  private free d.  fun senc/2.  reduc sdec(senc(x,y),y) -> x.
use Rattle.std.specs.Prelude.{List, [], ◌∷◌, ◌++◌, codes, true}
use Rattle.dps_terms.specs.declared.PublicName.TheVariants.{Declared, At}
use Rattle.dps_terms.specs.Tree.{public, ax, Tree, leaf}
use Rattle.dps_signature.specs.Signature.{Signature}
use Rattle.dps_theory.specs.Examples.{signature, theory, over, senc, sdec, a, b, k, x}
use Rattle.dps_process.specs.Models.{Model}
use Rattle.dps_process.specs.Process.{Process, nil, parallel, choice, bind, input, output}
use Rattle.dps_process.specs.Steps.{Label, inputs, outputs}
use Rattle.dps_process.specs.Traces.{IsTrace}
use Rattle.dps_examples.specs.Examples.{tells}
use Rattle.dps_examples.specs.declared.runs.Run.{Run}
use Rattle.dps_examples.specs.declared.runs.Run.TheVariants.{Stop, OwnName, PrivateName, PrivateDeclared, ComputedInput, FailedInput, PrivateInput, OtherInput}
use Rattle.dps_examples.specs.declared.runs.Run.TheVariants.{KnownHandle, UnknownHandle, FirstHandle, SecondHandle, WrongHandle, PrivateOutput, NoReceiver}
use Rattle.dps_examples.specs.declared.runs.Run.TheVariants.{NoSender, ComputedOutput, FailedOutput, Communication, SenderGoesOn, ThirdPart, OtherChannel}
use Rattle.dps_examples.specs.declared.runs.Run.TheVariants.{FailedCommunication, TwoOutputs, ThreeOutputs, FirstChoice, SecondChoice, BothChoices, OuterVariable, InnerVariable}

-- the signature with a private name d; the channels a, b and d are the numbers 0, 1 and 2
abbrev pub channels : Signature
channels = record { symbols = signature.symbols; names = signature.names ++ (record { name = codes "d"; is_private = true } ∷ []) }

-- `in(a,x); out(a,x)`
abbrev pub echo : Process
echo = input 0 1 (tells x)

-- `out(a,a); out(a,b); in(a,x); out(a,x)`
abbrev pub two_then_echo : Process
two_then_echo = output 0 a (output 0 b echo)

abbrev pub process_of : Run → Process
process_of Stop = tells a
process_of OwnName = echo
process_of PrivateName = echo
process_of PrivateDeclared = echo
process_of ComputedInput = echo
process_of FailedInput = input 0 1 nil
process_of PrivateInput = input 2 1 nil
process_of OtherInput = input 0 1 nil
process_of KnownHandle = output 0 a (input 0 1 nil)
process_of UnknownHandle = output 0 a (input 0 1 nil)
process_of FirstHandle = two_then_echo
process_of SecondHandle = two_then_echo
process_of WrongHandle = tells a
process_of PrivateOutput = output 2 a nil
process_of NoReceiver = output 2 a (tells b)
process_of NoSender = input 2 1 (tells b)
process_of ComputedOutput = tells (over sdec (over senc a b) b)
process_of FailedOutput = tells (over sdec a b)
process_of Communication = parallel (input 2 1 (tells x)) (output 2 a nil)
process_of SenderGoesOn = parallel (output 2 a (tells b)) (input 2 1 nil)
process_of ThirdPart = parallel (parallel (output 2 a nil) (input 2 1 (tells x))) (tells b)
process_of OtherChannel = parallel (input 1 1 (tells x)) (output 2 a nil)
process_of FailedCommunication = parallel (input 2 1 (tells x)) (output 2 (over sdec a b) nil)
process_of TwoOutputs = parallel (tells a) (tells b)
process_of ThreeOutputs = parallel (tells a) (tells b)
process_of FirstChoice = choice (tells a) nil
process_of SecondChoice = choice nil (tells a)
process_of BothChoices = choice (tells a) (tells b)
process_of OuterVariable = input 0 1 (bind 1 (over sdec a b) nil (tells x))
process_of InnerVariable = input 0 1 (bind 1 a (tells x) nil)

-- `in(a,r), out(a,ax1)`
abbrev pub sent_and_got : Tree → List Label
sent_and_got r = inputs 0 r ∷ outputs 0 1 ∷ []

-- `out(a,ax1), out(a,ax2), in(a,r), out(a,ax3)`
abbrev pub got_and_sent : Tree → List Label
got_and_sent r = outputs 0 1 ∷ outputs 0 2 ∷ inputs 0 r ∷ outputs 0 3 ∷ []

-- `out(a,ax1)`
abbrev pub got : List Label
got = outputs 0 1 ∷ []

abbrev pub word_of : Run → List Label
word_of Stop = []
word_of OwnName = sent_and_got (leaf (public (At 0)))
word_of PrivateName = sent_and_got k
word_of PrivateDeclared = sent_and_got (leaf (public (Declared 2)))
word_of ComputedInput = sent_and_got (over sdec (over senc a b) b)
word_of FailedInput = inputs 0 (over sdec a b) ∷ []
word_of PrivateInput = inputs 2 a ∷ []
word_of OtherInput = inputs 1 a ∷ []
word_of KnownHandle = outputs 0 1 ∷ inputs 0 (leaf (ax 1)) ∷ []
word_of UnknownHandle = outputs 0 1 ∷ inputs 0 (leaf (ax 2)) ∷ []
word_of FirstHandle = got_and_sent (leaf (ax 1))
word_of SecondHandle = got_and_sent (leaf (ax 2))
word_of WrongHandle = outputs 0 2 ∷ []
word_of PrivateOutput = outputs 2 1 ∷ []
word_of ThirdPart = outputs 0 1 ∷ outputs 0 2 ∷ []
word_of TwoOutputs = outputs 0 1 ∷ outputs 0 2 ∷ []
word_of ThreeOutputs = outputs 0 1 ∷ outputs 0 2 ∷ outputs 0 3 ∷ []
word_of BothChoices = outputs 0 1 ∷ outputs 0 2 ∷ []
word_of OuterVariable = sent_and_got b
word_of InnerVariable = sent_and_got b
word_of run = got

-- what the frame holds at the end, where there is a trace
abbrev pub frame_of : Run → List Tree
frame_of Stop = []
frame_of OwnName = leaf (public (At 0)) ∷ []
frame_of FirstHandle = a ∷ b ∷ a ∷ []
frame_of SecondHandle = a ∷ b ∷ b ∷ []
frame_of TwoOutputs = b ∷ a ∷ []
frame_of SenderGoesOn = b ∷ []
frame_of ThirdPart = a ∷ b ∷ []
frame_of OuterVariable = b ∷ []
frame_of run = a ∷ []

-- in each model the labels are a trace with this frame
abbrev pub HasTheTrace : Run → Type 0
HasTheTrace run = (model : Model) → IsTrace model channels theory (process_of run) (word_of run) (frame_of run)

-- in each model, and whatever the frame, they are no trace of the process
abbrev pub HasNoTrace : Run → Type 0
HasNoTrace run = (model : Model) (frame : List Tree) → ¬ IsTrace model channels theory (process_of run) (word_of run) frame
