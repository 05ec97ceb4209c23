-- Small processes that the models of communication tell apart.
use Rattle.std.specs.Prelude.{◌≢◌, List, [], ◌∷◌}
use Rattle.dps_branch.specs.declared.Side.{Side}
use Rattle.dps_terms.specs.Tree.{Tree}
use Rattle.dps_theory.specs.Examples.{theory, over, senc, sdec, a, b, x}
use Rattle.dps_process.specs.Models.{Model, Private, Classic, Eavesdrop}
use Rattle.dps_process.specs.Process.{Process, nil, parallel, choice, input, output}
use Rattle.dps_process.specs.Problem.{Problem}
use Rattle.dps_process.specs.Steps.{Label, outputs, overhears}
use Rattle.dps_process.specs.Traces.{IsTrace, IsEquivalent, IsAttack}
use Rattle.dps_examples.specs.Examples.{tells, against}
use Rattle.dps_examples.specs.Runs.{channels}
use Rattle.dps_examples.specs.declared.models.ModelName.{ModelName}
use Rattle.dps_examples.specs.declared.models.ModelName.TheVariants.{Private as PrivateName, Classic as ClassicName, Eavesdrop as EavesdropName}
use Rattle.dps_examples.specs.declared.models.Exchange.{Exchange}
use Rattle.dps_examples.specs.declared.models.Exchange.TheVariants.{UnseenInPublic, Overheard, SenderGoesOn, OverheardLater, OverheardValue, WrongHandle, PrivateChannel, OtherChannel, NoMessage}
use Rattle.dps_examples.specs.declared.models.Difference.{Difference}
use Rattle.dps_examples.specs.declared.models.Difference.TheVariants.{UnseenFirst, OneByOne}

-- the model of this name
abbrev pub named_model : ModelName → Model
named_model PrivateName = Private
named_model ClassicName = Classic
named_model EavesdropName = Eavesdrop

-- `in(b,x); out(a,x) | out(b,t)`
abbrev pub passes_on : Tree → Process
passes_on t = parallel (input 1 1 (tells x)) (output 1 t nil)

-- `in(b,x) | out(b,t)`
abbrev pub takes : Tree → Process
takes t = parallel (input 1 1 nil) (output 1 t nil)

abbrev pub exchanging : Exchange → Process
exchanging UnseenInPublic = passes_on a
exchanging Overheard = passes_on a
exchanging SenderGoesOn = parallel (output 1 a (tells b)) (input 1 1 nil)
exchanging OverheardLater = parallel (output 0 b (output 1 a nil)) (input 1 1 nil)
exchanging OverheardValue = takes (over sdec (over senc a b) b)
exchanging WrongHandle = takes a
exchanging PrivateChannel = parallel (input 2 1 nil) (output 2 a nil)
exchanging OtherChannel = parallel (input 1 1 nil) (output 0 a nil)
exchanging NoMessage = takes (over sdec a b)

abbrev pub labels_of : Exchange → List Label
labels_of UnseenInPublic = outputs 0 1 ∷ []
labels_of Overheard = overhears 1 1 ∷ outputs 0 2 ∷ []
labels_of SenderGoesOn = overhears 1 1 ∷ outputs 0 2 ∷ []
labels_of OverheardLater = outputs 0 1 ∷ overhears 1 2 ∷ []
labels_of WrongHandle = overhears 1 2 ∷ []
labels_of PrivateChannel = overhears 2 1 ∷ []
labels_of exchange = overhears 1 1 ∷ []

-- what the frame holds at the end, where there is a trace
abbrev pub last_frame : Exchange → List Tree
last_frame Overheard = a ∷ a ∷ []
last_frame SenderGoesOn = a ∷ b ∷ []
last_frame OverheardLater = b ∷ a ∷ []
last_frame exchange = a ∷ []

-- whatever the frame, the labels are no trace in the model
abbrev pub HasNoTraceIn : Model → Exchange → Type 0
HasNoTraceIn model exchange = (frame : List Tree) → ¬ IsTrace model channels theory (exchanging exchange) (labels_of exchange) frame

abbrev pub IsInNoModel : Exchange → Type 0
IsInNoModel exchange = (model : Model) → HasNoTraceIn model exchange

-- the labels are a trace in this model with this frame, and in the others they are none
abbrev pub IsInOneModel : Exchange → ModelName → Type 0
IsInOneModel exchange name =
    IsTrace (named_model name) channels theory (exchanging exchange) (labels_of exchange) (last_frame exchange)
    × ((other : Model) → other ≢ named_model name → HasNoTraceIn other exchange)

-- `out(a,a) | in(a,x); out(b,b)`
abbrev pub waits : Process
waits = parallel (output 0 a nil) (input 0 1 (output 1 b nil))

-- `out(a,a) | in(a,x)`
abbrev pub side_by_side : Process
side_by_side = parallel (output 0 a nil) (input 0 1 nil)

-- `out(a,a); in(a,x) + in(a,x); out(a,a)`
abbrev pub one_by_one : Process
one_by_one = choice (output 0 a (input 0 1 nil)) (input 0 1 (output 0 a nil))

abbrev pub differing : Model → Difference → Problem
differing model UnseenFirst = against model waits (choice waits (output 1 b nil))
differing model OneByOne = against model side_by_side one_by_one

-- the labels of the attack, where there is one
abbrev pub telling : Difference → List Label
telling UnseenFirst = outputs 1 1 ∷ []
telling OneByOne = overhears 0 1 ∷ []

abbrev pub AreAlikeIn : ModelName → Difference → Type 0
AreAlikeIn name difference = IsEquivalent (differing (named_model name) difference)

abbrev pub IsAttackedIn : ModelName → Difference → Side → Type 0
IsAttackedIn name difference side = IsAttack (differing (named_model name) difference) side (telling difference)
