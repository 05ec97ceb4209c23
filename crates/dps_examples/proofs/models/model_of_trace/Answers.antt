use Rattle.std.proofs.Common.{subst, sym}
use Rattle.dps_examples.specs.Differences.{IsInNoModel, IsInOneModel}
use Rattle.dps_examples.specs.declared.models.Exchange.{Exchange}
use Rattle.dps_examples.specs.declared.models.ModelName.TheVariants.{Classic as ClassicName, Eavesdrop as EavesdropName}
use Rattle.dps_examples.proofs.Exchanges.{unseen_in_public, is_overheard, sender_goes_on, overheard_later, overheard_value, wrong_handle, private_channel, other_channel, no_message}
use Rattle.dps_examples.proofs.models.model_of_trace.Goals as goal

pub returns-in-UnseenInPublic : goal.returns-in-UnseenInPublic
returns-in-UnseenInPublic c = subst (λ (e : Exchange). IsInOneModel e ClassicName) (sym c.in-UnseenInPublic.is) unseen_in_public

pub returns-in-Overheard : goal.returns-in-Overheard
returns-in-Overheard c = subst (λ (e : Exchange). IsInOneModel e EavesdropName) (sym c.in-Overheard.is) is_overheard

pub returns-in-SenderGoesOn : goal.returns-in-SenderGoesOn
returns-in-SenderGoesOn c = subst (λ (e : Exchange). IsInOneModel e EavesdropName) (sym c.in-SenderGoesOn.is) sender_goes_on

pub returns-in-OverheardLater : goal.returns-in-OverheardLater
returns-in-OverheardLater c = subst (λ (e : Exchange). IsInOneModel e EavesdropName) (sym c.in-OverheardLater.is) overheard_later

pub returns-in-OverheardValue : goal.returns-in-OverheardValue
returns-in-OverheardValue c = subst (λ (e : Exchange). IsInOneModel e EavesdropName) (sym c.in-OverheardValue.is) overheard_value

pub returns-in-WrongHandle : goal.returns-in-WrongHandle
returns-in-WrongHandle c = subst IsInNoModel (sym c.in-WrongHandle.is) wrong_handle

pub returns-in-PrivateChannel : goal.returns-in-PrivateChannel
returns-in-PrivateChannel c = subst IsInNoModel (sym c.in-PrivateChannel.is) private_channel

pub returns-in-OtherChannel : goal.returns-in-OtherChannel
returns-in-OtherChannel c = subst IsInNoModel (sym c.in-OtherChannel.is) other_channel

pub returns-in-NoMessage : goal.returns-in-NoMessage
returns-in-NoMessage c = subst IsInNoModel (sym c.in-NoMessage.is) no_message
