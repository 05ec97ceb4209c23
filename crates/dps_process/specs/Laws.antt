-- What a reader expects of steps, traces and equivalence, each stated as one fact.
use Rattle.std.specs.Prelude.{◌≡◌, ◌≢◌, ◌⊎◌, ◌↔◌, ℕ, ◌<◌, List, ◌∷◌, ◌++◌, length, All, Contains, ⊤}
use Rattle.dps_branch.specs.declared.Side.{Side}
use Rattle.dps_branch.specs.Sides.{opposite}
use Rattle.dps_terms.specs.Tree.{var, Tree, StandsIn}
use Rattle.dps_signature.specs.Signature.{Signature, shapes}
use Rattle.dps_terms.specs.Kinds.{IsClosed}
use Rattle.dps_signature.specs.Kinds.{IsFrameMessage, IsOver, IsPartTerm, IsRecipe}
use Rattle.dps_theory.specs.Theory.{Theory}
use Rattle.dps_theory.specs.Evaluation.{Evaluates}
use Rattle.dps_theory.specs.Frames.{HasValue, IsFrame}
use Rattle.dps_process.specs.Models.{Model, Eavesdrop}
use Rattle.dps_process.specs.Process.{Process, parallel, choice, part_nodes, IsFree, IsClosedProcess, put, EachTerm, EachChannel, EachBinder}
use Rattle.dps_process.specs.Problem.{Problem, side_of, IsLawful, IsLawfulTheory}
use Rattle.dps_process.specs.Steps.{Config, start, Label, inputs, outputs, overhears, Action, Step, AreOneBag}
use Rattle.dps_process.specs.Traces.{Runs, IsTrace, Ends, Matches, IsIncluded, AreTraceEquivalent, IsEquivalent, IsTraceOf, IsAttack}
use Rattle.dps_process.specs.Lawful.{IsLawfulConfig, AreLawfulLabels}

-- being one bag is an equivalence
abbrev pub BagsReflexive : Type 0
BagsReflexive = (c : Config) → AreOneBag c c

abbrev pub BagsSymmetric : Type 0
BagsSymmetric = (c d : Config) → AreOneBag c d → AreOneBag d c

abbrev pub BagsTransitive : Type 0
BagsTransitive = (c d e : Config) → AreOneBag c d → AreOneBag d e → AreOneBag c e

-- parts that stand side by side may be exchanged, and so any parts
abbrev pub NeighboursSwap : Type 0
NeighboursSwap =
    (before after : List Process) (p q : Process) (frame : List Tree)
    → AreOneBag (record { parts = before ++ (p ∷ q ∷ after); frame = frame }) (record { parts = before ++ (q ∷ p ∷ after); frame = frame })

-- the order of the parts matters to no run
abbrev pub OrderIsUnseen : Type 0
OrderIsUnseen =
    (model : Model) (signature : Signature) (theory : Theory) (c d : Config) (word : List Label) (frame : List Tree)
    → AreOneBag c d
    → Ends model signature theory c word frame
    → Ends model signature theory d word frame

-- each step uses up a process node, so each list of steps is finite
abbrev pub StepsUseUp : Type 0
StepsUseUp =
    (model : Model) (signature : Signature) (theory : Theory) (c d : Config) (action : Action)
    → Step model signature theory c action d
    → part_nodes d.parts < part_nodes c.parts

-- a run only adds to the frame
abbrev pub FramesGrow : Type 0
FramesGrow =
    (model : Model) (signature : Signature) (theory : Theory) (c d : Config) (word : List Label)
    → Runs model signature theory c word d
    → (added : List Tree) × (d.frame ≡ c.frame ++ added)

-- a closed process has no variable to put a term for
abbrev pub ClosedProcessStays : Type 0
ClosedProcessStays = (x : ℕ) (t : Tree) (p : Process) → IsClosedProcess p → put x t p ≡ p

-- a closed term put for a variable removes this variable, and no other
abbrev pub PutRemoves : Type 0
PutRemoves = (x : ℕ) (t : Tree) (p : Process) → IsClosed t → (y : ℕ) → IsFree y (put x t p) ↔ (IsFree y p × (y ≢ x))

-- a variable that stands in no term of a process is not free there
abbrev pub FreeStands : Type 0
FreeStands = (x : ℕ) (p : Process) → EachTerm (λ u. ¬ StandsIn (var x) u) p → ¬ IsFree x p

-- a variable that is not free, and that no binder binds, stands in no term
abbrev pub UnboundIsFree : Type 0
UnboundIsFree = (x : ℕ) (p : Process) → EachBinder (λ y. x ≢ y) p → (¬ IsFree x p) → EachTerm (λ u. ¬ StandsIn (var x) u) p

-- the channel that a label names
abbrev pub channel_of : Label → ℕ
channel_of (inputs c r) = c
channel_of (outputs c j) = c
channel_of (overhears c j) = c

-- the labels of a trace name channels of the process
abbrev pub LabelsNameChannels : Type 0
LabelsNameChannels =
    (channels : List ℕ) (model : Model) (signature : Signature) (theory : Theory) (p : Process) (word : List Label) (frame : List Tree)
    → EachChannel (λ c. Contains channels c) p
    → IsTrace model signature theory p word frame
    → All (λ l. Contains channels (channel_of l)) word

-- what a term over the signature evaluates to is a message of a frame over the signature
abbrev pub ValuesStayOver : Type 0
ValuesStayOver =
    (signature : Signature) (theory : Theory) (t v : Tree)
    → IsLawfulTheory signature theory
    → IsPartTerm signature t
    → Evaluates theory t v
    → IsFrameMessage (shapes signature) v × IsOver signature v

-- and so is the value of a recipe in a frame
abbrev pub RecipesGiveMessages : Type 0
RecipesGiveMessages =
    (signature : Signature) (theory : Theory) (frame : List Tree) (r v : Tree)
    → IsLawfulTheory signature theory
    → IsFrame signature frame
    → IsRecipe signature (length frame) r
    → HasValue theory frame r v
    → IsFrameMessage (shapes signature) v × IsOver signature v

-- each side of a lawful problem starts lawful
abbrev pub SidesStartLawful : Type 0
SidesStartLawful =
    (problem : Problem) (side : Side)
    → IsLawful problem
    → IsLawfulConfig problem.signature (start (side_of problem side))

-- a step of a lawful configuration leads to a lawful one
abbrev pub StepsStayLawful : Type 0
StepsStayLawful =
    (model : Model) (signature : Signature) (theory : Theory) (c d : Config) (action : Action)
    → IsLawfulTheory signature theory
    → IsLawfulConfig signature c
    → Step model signature theory c action d
    → IsLawfulConfig signature d

-- and so does a run
abbrev pub RunsStayLawful : Type 0
RunsStayLawful =
    (model : Model) (signature : Signature) (theory : Theory) (c d : Config) (word : List Label)
    → IsLawfulTheory signature theory
    → IsLawfulConfig signature c
    → Runs model signature theory c word d
    → IsLawfulConfig signature d

-- so each trace of a lawful problem ends in a frame over its signature
abbrev pub TracesEndInFrames : Type 0
TracesEndInFrames =
    (problem : Problem) (side : Side) (word : List Label) (frame : List Tree)
    → IsLawful problem
    → IsTraceOf problem side word frame
    → IsFrame problem.signature frame

-- nothing is overheard but in the eavesdrop model
abbrev pub IsUnheard : Label → Type 0
IsUnheard (inputs c r) = ⊤
IsUnheard (outputs c j) = ⊤
IsUnheard (overhears c j) = ⊥

abbrev pub OnlyEavesdropOverhears : Type 0
OnlyEavesdropOverhears =
    (model : Model) (signature : Signature) (theory : Theory) (p : Process) (word : List Label) (frame : List Tree)
    → model ≢ Eavesdrop
    → IsTrace model signature theory p word frame
    → All IsUnheard word

-- the first labels of a trace are a trace, and its frame begins the other
abbrev pub PrefixesAreTraces : Type 0
PrefixesAreTraces =
    (model : Model) (signature : Signature) (theory : Theory) (p : Process) (word more : List Label) (frame : List Tree)
    → IsTrace model signature theory p (word ++ more) frame
    → (earlier : List Tree) × (added : List Tree) × IsTrace model signature theory p word earlier × (frame ≡ earlier ++ added)

-- the labels of a trace name public channels, hold recipes over the frames of their moments, and number the messages of
-- the last frame in order
abbrev pub TracesHaveLawfulLabels : Type 0
TracesHaveLawfulLabels =
    (model : Model) (signature : Signature) (theory : Theory) (p : Process) (word : List Label) (frame : List Tree)
    → IsTrace model signature theory p word frame
    → AreLawfulLabels signature 0 word (length frame)

-- inclusion is reflexive and transitive, and two inclusions are equivalence
abbrev pub InclusionReflexive : Type 0
InclusionReflexive = (model : Model) (signature : Signature) (theory : Theory) (p : Process) → IsIncluded model signature theory p p

abbrev pub InclusionTransitive : Type 0
InclusionTransitive =
    (model : Model) (signature : Signature) (theory : Theory) (p q r : Process)
    → IsIncluded model signature theory p q → IsIncluded model signature theory q r → IsIncluded model signature theory p r

abbrev pub InclusionsAreEquivalence : Type 0
InclusionsAreEquivalence =
    (model : Model) (signature : Signature) (theory : Theory) (p q : Process)
    → AreTraceEquivalent model signature theory p q ↔ (IsIncluded model signature theory p q × IsIncluded model signature theory q p)

-- trace equivalence is an equivalence
abbrev pub TracesReflexive : Type 0
TracesReflexive = (model : Model) (signature : Signature) (theory : Theory) (p : Process) → AreTraceEquivalent model signature theory p p

abbrev pub TracesSymmetric : Type 0
TracesSymmetric =
    (model : Model) (signature : Signature) (theory : Theory) (p q : Process)
    → AreTraceEquivalent model signature theory p q → AreTraceEquivalent model signature theory q p

abbrev pub TracesTransitive : Type 0
TracesTransitive =
    (model : Model) (signature : Signature) (theory : Theory) (p q r : Process)
    → AreTraceEquivalent model signature theory p q → AreTraceEquivalent model signature theory q r → AreTraceEquivalent model signature theory p r

-- the order of the two processes does not matter
abbrev pub ChoiceCommutes : Type 0
ChoiceCommutes = (model : Model) (signature : Signature) (theory : Theory) (p q : Process) → AreTraceEquivalent model signature theory (choice p q) (choice q p)

abbrev pub ParallelCommutes : Type 0
ParallelCommutes = (model : Model) (signature : Signature) (theory : Theory) (p q : Process) → AreTraceEquivalent model signature theory (parallel p q) (parallel q p)

-- an attack refutes equivalence
abbrev pub AttackRefutes : Type 0
AttackRefutes = (problem : Problem) (side : Side) (word : List Label) → IsAttack problem side word → ¬ IsEquivalent problem

-- there is no attack of either side exactly where no trace of either side is unmatched
abbrev pub NoAttackLeavesNoneUnmatched : Type 0
NoAttackLeavesNoneUnmatched =
    (problem : Problem)
    → ((side : Side) (word : List Label) → ¬ IsAttack problem side word)
    ↔ ((side : Side) (word : List Label) (frame : List Tree)
    → IsTraceOf problem side word frame
    → ¬ (¬ Matches problem.model problem.signature problem.theory (side_of problem (opposite side)) word frame))

-- for each trace of either side it is decided whether the other side matches it
abbrev pub IsDecided : Problem → Type 0
IsDecided problem =
    (side : Side) (word : List Label) (frame : List Tree)
    → IsTraceOf problem side word frame
    → Matches problem.model problem.signature problem.theory (side_of problem (opposite side)) word frame
    ⊎ ¬ Matches problem.model problem.signature problem.theory (side_of problem (opposite side)) word frame

-- where that is decided and there is no attack of either side, the sides are equivalent
abbrev pub NoAttackIsEquivalence : Type 0
NoAttackIsEquivalence =
    (problem : Problem)
    → IsDecided problem
    → ((side : Side) (word : List Label) → ¬ IsAttack problem side word)
    → IsEquivalent problem
