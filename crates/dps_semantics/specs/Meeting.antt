-- Which communications the parts at two places have, and what they lead to.
use Rattle.std.specs.Prelude.{◌≡◌, ◌<◌, ℕ, List, length, get_or}
use Rattle.dps_terms.specs.Tree.{Tree}
use Rattle.dps_signature.specs.Signature.{Signature}
use Rattle.dps_theory.specs.Theory.{Theory}
use Rattle.dps_theory.specs.Evaluation.{Evaluates}
use Rattle.dps_process.specs.Process.{Process, nil, input, output, put}
use Rattle.dps_process.specs.Models.{Model, MayMeet}
use Rattle.dps_semantics.specs.Parts.{left_at, Both}
use Rattle.dps_semantics.specs.Coming.{ComesTo, ComesByMeetings}

-- the part puts the message out on a channel on which parts may communicate, and is then q
abbrev pub Sends : Model → Signature → Theory → Process → ℕ → Tree → Process → Type 0
Sends model signature theory p d t q = (u : Tree) × (p ≡ output d u q) × MayMeet model signature d × Evaluates theory u t

abbrev pub SendsNothing : Model → Signature → Theory → Process → Type 0
SendsNothing model signature theory p = (d : ℕ) (t : Tree) (q : Process) → ¬ Sends model signature theory p d t q

-- the part takes the message on the channel, and is then p
abbrev pub Takes : Process → ℕ → Tree → Process → Type 0
Takes part d t p = (x : ℕ) × (q : Process) × (part ≡ input d x q) × (p ≡ put x t q)

abbrev pub TakesNothing : Process → ℕ → Tree → Type 0
TakesNothing part d t = (p : Process) → ¬ Takes part d t p

-- The part at the place of the list takes the message that was sent on the channel: the sender's rest, the receiver's and
-- the others come to these inputs and outputs.
abbrev pub TakesAt : Theory → ℕ → Tree → Process → List Process → ℕ → List Process → Type 0
TakesAt theory d t rest others j qs =
    (p : Process) × Takes (get_or others j nil) d t p × Both (ComesTo theory rest) (Both (ComesTo theory p) (λ ps. ps ≡ left_at j others)) qs

-- the part at some place does
abbrev pub IsTaken : Theory → ℕ → Tree → Process → List Process → List Process → Type 0
IsTaken theory d t rest others qs = (j : ℕ) × (j < length others) × TakesAt theory d t rest others j qs

-- the part at the place sends a message, and another takes it
abbrev pub MeetsAt : Model → Signature → Theory → List Process → ℕ → List Process → Type 0
MeetsAt model signature theory ps i qs =
    (d : ℕ) × (t : Tree) × (rest : Process) × Sends model signature theory (get_or ps i nil) d t rest × IsTaken theory d t rest (left_at i ps) qs

-- communications lead there from parts for which P holds
abbrev pub LeadsOn : Model → Signature → Theory → (List Process → Type 0) → List Process → Type 0
LeadsOn model signature theory P es = (bs : List Process) × P bs × ComesByMeetings model signature theory bs es
