use Rattle.std.proofs.Common.{subst, sym}
use Rattle.dps_examples.specs.Runs.{HasTheTrace, HasNoTrace}
use Rattle.dps_examples.proofs.OneRun.{stop, own_name, computed_input, known_handle, first_handle, second_handle, computed_output}
use Rattle.dps_examples.proofs.OneRun.{communication, sender_goes_on, third_part, two_outputs, first_choice, second_choice, outer_variable, inner_variable}
use Rattle.dps_examples.proofs.NoRun.{private_name, private_declared, failed_input, private_input, other_input, unknown_handle, wrong_handle, private_output}
use Rattle.dps_examples.proofs.NoRun.{no_receiver, no_sender, failed_output, other_channel, failed_communication, three_outputs, both_choices}
use Rattle.dps_examples.proofs.runs.has_trace.Goals as goal

pub returns-in-Stop : goal.returns-in-Stop
returns-in-Stop c = subst HasTheTrace (sym c.in-Stop.is) stop

pub returns-in-OwnName : goal.returns-in-OwnName
returns-in-OwnName c = subst HasTheTrace (sym c.in-OwnName.is) own_name

pub returns-in-PrivateName : goal.returns-in-PrivateName
returns-in-PrivateName c = subst HasNoTrace (sym c.in-PrivateName.is) private_name

pub returns-in-PrivateDeclared : goal.returns-in-PrivateDeclared
returns-in-PrivateDeclared c = subst HasNoTrace (sym c.in-PrivateDeclared.is) private_declared

pub returns-in-ComputedInput : goal.returns-in-ComputedInput
returns-in-ComputedInput c = subst HasTheTrace (sym c.in-ComputedInput.is) computed_input

pub returns-in-FailedInput : goal.returns-in-FailedInput
returns-in-FailedInput c = subst HasNoTrace (sym c.in-FailedInput.is) failed_input

pub returns-in-PrivateInput : goal.returns-in-PrivateInput
returns-in-PrivateInput c = subst HasNoTrace (sym c.in-PrivateInput.is) private_input

pub returns-in-OtherInput : goal.returns-in-OtherInput
returns-in-OtherInput c = subst HasNoTrace (sym c.in-OtherInput.is) other_input

pub returns-in-KnownHandle : goal.returns-in-KnownHandle
returns-in-KnownHandle c = subst HasTheTrace (sym c.in-KnownHandle.is) known_handle

pub returns-in-UnknownHandle : goal.returns-in-UnknownHandle
returns-in-UnknownHandle c = subst HasNoTrace (sym c.in-UnknownHandle.is) unknown_handle

pub returns-in-FirstHandle : goal.returns-in-FirstHandle
returns-in-FirstHandle c = subst HasTheTrace (sym c.in-FirstHandle.is) first_handle

pub returns-in-SecondHandle : goal.returns-in-SecondHandle
returns-in-SecondHandle c = subst HasTheTrace (sym c.in-SecondHandle.is) second_handle

pub returns-in-WrongHandle : goal.returns-in-WrongHandle
returns-in-WrongHandle c = subst HasNoTrace (sym c.in-WrongHandle.is) wrong_handle

pub returns-in-PrivateOutput : goal.returns-in-PrivateOutput
returns-in-PrivateOutput c = subst HasNoTrace (sym c.in-PrivateOutput.is) private_output

pub returns-in-NoReceiver : goal.returns-in-NoReceiver
returns-in-NoReceiver c = subst HasNoTrace (sym c.in-NoReceiver.is) no_receiver

pub returns-in-NoSender : goal.returns-in-NoSender
returns-in-NoSender c = subst HasNoTrace (sym c.in-NoSender.is) no_sender

pub returns-in-ComputedOutput : goal.returns-in-ComputedOutput
returns-in-ComputedOutput c = subst HasTheTrace (sym c.in-ComputedOutput.is) computed_output

pub returns-in-FailedOutput : goal.returns-in-FailedOutput
returns-in-FailedOutput c = subst HasNoTrace (sym c.in-FailedOutput.is) failed_output

pub returns-in-Communication : goal.returns-in-Communication
returns-in-Communication c = subst HasTheTrace (sym c.in-Communication.is) communication

pub returns-in-SenderGoesOn : goal.returns-in-SenderGoesOn
returns-in-SenderGoesOn c = subst HasTheTrace (sym c.in-SenderGoesOn.is) sender_goes_on

pub returns-in-ThirdPart : goal.returns-in-ThirdPart
returns-in-ThirdPart c = subst HasTheTrace (sym c.in-ThirdPart.is) third_part

pub returns-in-OtherChannel : goal.returns-in-OtherChannel
returns-in-OtherChannel c = subst HasNoTrace (sym c.in-OtherChannel.is) other_channel

pub returns-in-FailedCommunication : goal.returns-in-FailedCommunication
returns-in-FailedCommunication c = subst HasNoTrace (sym c.in-FailedCommunication.is) failed_communication

pub returns-in-TwoOutputs : goal.returns-in-TwoOutputs
returns-in-TwoOutputs c = subst HasTheTrace (sym c.in-TwoOutputs.is) two_outputs

pub returns-in-ThreeOutputs : goal.returns-in-ThreeOutputs
returns-in-ThreeOutputs c = subst HasNoTrace (sym c.in-ThreeOutputs.is) three_outputs

pub returns-in-FirstChoice : goal.returns-in-FirstChoice
returns-in-FirstChoice c = subst HasTheTrace (sym c.in-FirstChoice.is) first_choice

pub returns-in-SecondChoice : goal.returns-in-SecondChoice
returns-in-SecondChoice c = subst HasTheTrace (sym c.in-SecondChoice.is) second_choice

pub returns-in-BothChoices : goal.returns-in-BothChoices
returns-in-BothChoices c = subst HasNoTrace (sym c.in-BothChoices.is) both_choices

pub returns-in-OuterVariable : goal.returns-in-OuterVariable
returns-in-OuterVariable c = subst HasTheTrace (sym c.in-OuterVariable.is) outer_variable

pub returns-in-InnerVariable : goal.returns-in-InnerVariable
returns-in-InnerVariable c = subst HasTheTrace (sym c.in-InnerVariable.is) inner_variable
