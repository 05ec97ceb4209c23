-- What each form of process does by itself, and what two parts do together: just this, and nothing else.
use Rattle.std.specs.Prelude.{◌≡◌, ◌⊎◌, ◌↔◌, ℕ, ◌+◌, List, [], ◌∷◌, ◌++◌, length, ⊤}
use Rattle.dps_terms.specs.Tree.{Tree}
use Rattle.dps_signature.specs.Signature.{Signature, IsPublic}
use Rattle.dps_signature.specs.Kinds.{IsRecipe}
use Rattle.dps_theory.specs.Theory.{Theory}
use Rattle.dps_theory.specs.Evaluation.{Evaluates, IsMessage, AreEqual}
use Rattle.dps_theory.specs.Frames.{HasValue}
use Rattle.dps_process.specs.Models.{Model, MayMeet, IsOverheard}
use Rattle.dps_process.specs.Process.{Process, nil, parallel, choice, conditional, bind, input, output, put}
use Rattle.dps_process.specs.Steps.{Config, inputs, outputs, overhears, Action, silent, shows, Removes, PartSteps, Communicates, Step}

-- silently, to these parts, and nothing comes to the frame
abbrev pub IsSilentTo : List Process → Action → List Process → List Tree → Type 0
IsSilentTo ps action become added = (action ≡ silent) × (become ≡ ps) × (added ≡ [])

-- `0` is gone
abbrev pub NilEnds : Type 0
NilEnds =
    (signature : Signature) (theory : Theory) (frame : List Tree) (action : Action) (become : List Process) (added : List Tree)
    → PartSteps signature theory frame nil action become added ↔ IsSilentTo [] action become added

-- parallel processes become two parts
abbrev pub ParallelSplits : Type 0
ParallelSplits =
    (signature : Signature) (theory : Theory) (frame : List Tree) (p q : Process) (action : Action) (become : List Process) (added : List Tree)
    → PartSteps signature theory frame (parallel p q) action become added ↔ IsSilentTo (p ∷ q ∷ []) action become added

-- a choice becomes either
abbrev pub ChoiceChooses : Type 0
ChoiceChooses =
    (signature : Signature) (theory : Theory) (frame : List Tree) (p q : Process) (action : Action) (become : List Process) (added : List Tree)
    → PartSteps signature theory frame (choice p q) action become added
    ↔ (IsSilentTo (p ∷ []) action become added ⊎ IsSilentTo (q ∷ []) action become added)

-- a test takes its first branch where both terms evaluate to one value, and else its second
abbrev pub TestBranches : Type 0
TestBranches =
    (signature : Signature) (theory : Theory) (frame : List Tree) (u v : Tree) (p q : Process) (action : Action) (become : List Process) (added : List Tree)
    → PartSteps signature theory frame (conditional u v p q) action become added
    ↔ ((AreEqual theory u v × IsSilentTo (p ∷ []) action become added) ⊎ ((¬ AreEqual theory u v) × IsSilentTo (q ∷ []) action become added))

-- a binding puts the term's value, or takes its other branch where the term is no message
abbrev pub BindingBranches : Type 0
BindingBranches =
    (signature : Signature) (theory : Theory) (frame : List Tree) (x : ℕ) (u : Tree) (p q : Process) (action : Action) (become : List Process) (added : List Tree)
    → PartSteps signature theory frame (bind x u p q) action become added
    ↔ (((t : Tree) × Evaluates theory u t × IsSilentTo (put x t p ∷ []) action become added) ⊎ ((¬ IsMessage theory u) × IsSilentTo (q ∷ []) action become added))

-- an input on a public channel takes the value of a recipe over the frame
abbrev pub InputReceives : Type 0
InputReceives =
    (signature : Signature) (theory : Theory) (frame : List Tree) (c x : ℕ) (p : Process) (action : Action) (become : List Process) (added : List Tree)
    → PartSteps signature theory frame (input c x p) action become added
    ↔ ((r : Tree) × (t : Tree) × IsPublic signature c × IsRecipe signature (length frame) r × HasValue theory frame r t
    × (action ≡ shows (inputs c r)) × (become ≡ put x t p ∷ []) × (added ≡ []))

-- an output on a public channel puts its term's value at the frame's end, with the next handle
abbrev pub OutputSends : Type 0
OutputSends =
    (signature : Signature) (theory : Theory) (frame : List Tree) (c : ℕ) (u : Tree) (p : Process) (action : Action) (become : List Process) (added : List Tree)
    → PartSteps signature theory frame (output c u p) action become added
    ↔ ((t : Tree) × IsPublic signature c × Evaluates theory u t
    × (action ≡ shows (outputs c (length frame + 1))) × (become ≡ p ∷ []) × (added ≡ t ∷ []))

-- only an output sends to another part, and only an input receives from one
abbrev pub IsOutput : Process → Type 0
IsOutput (output c u p) = ⊤
IsOutput p = ⊥

abbrev pub IsInput : Process → Type 0
IsInput (input c x p) = ⊤
IsInput p = ⊥

abbrev pub OutputsMeetInputs : Type 0
OutputsMeetInputs =
    (model : Model) (signature : Signature) (theory : Theory) (frame : List Tree) (sender receiver sent received : Process) (action : Action) (added : List Tree)
    → Communicates model signature theory frame sender receiver action sent received added
    → IsOutput sender × IsInput receiver

-- unseen, and then nothing comes to the frame, or overheard, and then the message does, with the next handle
abbrev pub IsUnseenOrOverheard : Model → Signature → List Tree → ℕ → Tree → Action → List Tree → Type 0
IsUnseenOrOverheard model signature frame c t action added =
    (MayMeet model signature c × (action ≡ silent) × (added ≡ []))
    ⊎ (IsOverheard model signature c × (action ≡ shows (overhears c (length frame + 1))) × (added ≡ t ∷ []))

-- an output and an input of one channel communicate the term's value, unseen or overheard
abbrev pub MessageIsPassed : Type 0
MessageIsPassed =
    (model : Model) (signature : Signature) (theory : Theory) (frame : List Tree) (c d x : ℕ) (u : Tree) (p q sent received : Process) (action : Action) (added : List Tree)
    → Communicates model signature theory frame (output c u p) (input d x q) action sent received added
    ↔ ((t : Tree) × (d ≡ c) × Evaluates theory u t × (sent ≡ p) × (received ≡ put x t q) × IsUnseenOrOverheard model signature frame c t action added)

-- one part of a configuration moves by itself, and all else stays
abbrev pub OneMoves : Signature → Theory → Config → Action → Config → Type 0
OneMoves signature theory c action d =
    (part : Process) × (others : List Process) × (become : List Process) × (added : List Tree)
    × Removes part c.parts others
    × PartSteps signature theory c.frame part action become added
    × (d ≡ record { parts = become ++ others; frame = c.frame ++ added })

-- two parts communicate, and all else stays
abbrev pub TwoCommunicate : Model → Signature → Theory → Config → Action → Config → Type 0
TwoCommunicate model signature theory c action d =
    (sender : Process) × (receiver : Process) × (others : List Process) × (rest : List Process)
    × (sent : Process) × (received : Process) × (added : List Tree)
    × Removes sender c.parts others
    × Removes receiver others rest
    × Communicates model signature theory c.frame sender receiver action sent received added
    × (d ≡ record { parts = sent ∷ received ∷ rest; frame = c.frame ++ added })

-- a step is one of these
abbrev pub OneOrTwoMove : Type 0
OneOrTwoMove =
    (model : Model) (signature : Signature) (theory : Theory) (c d : Config) (action : Action)
    → Step model signature theory c action d
    ↔ (OneMoves signature theory c action d ⊎ TwoCommunicate model signature theory c action d)
