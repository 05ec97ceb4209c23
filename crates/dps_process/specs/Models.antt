-- The models of communication: on which channels two parts of a process communicate unseen, and on which the attacker
-- overhears them.
use Rattle.std.specs.Prelude.{ℕ, ⊤}
use Rattle.dps_signature.specs.Signature.{Signature, IsPublic, IsPrivate}
use Rattle.dps_process.specs.declared.model.CommModel.{CommModel}
use Rattle.dps_process.specs.declared.model.CommModel.TheVariants.{Private as PrivateValue, Classic as ClassicValue}

pub data Model : Type 0 where
  Private : Model
  Classic : Model
  Eavesdrop : Model

-- parts may communicate unseen on the channel: on a private one, and in the classic model on every one
abbrev pub MayMeet : Model → Signature → ℕ → Type 0
MayMeet Private signature d = IsPrivate signature d
MayMeet Classic signature d = ⊤
MayMeet Eavesdrop signature d = IsPrivate signature d

-- the attacker overhears what parts communicate on the channel: in the eavesdrop model, on a public one
abbrev pub IsOverheard : Model → Signature → ℕ → Type 0
IsOverheard Private signature c = ⊥
IsOverheard Classic signature c = ⊥
IsOverheard Eavesdrop signature c = IsPublic signature c

-- the model that a value stands for
abbrev pub model_of : CommModel → Model
model_of PrivateValue = Private
model_of ClassicValue = Classic
