-- What a reader expects of answers.
use Rattle.std.specs.Prelude.{◌↔◌, List, ⊤}
use Rattle.dps_branch.specs.declared.Side.{Side}
use Rattle.dps_terms.specs.Tree.{Tree}
use Rattle.dps_process.specs.Problem.{Problem}
use Rattle.dps_process.specs.Steps.{Label}
use Rattle.dps_process.specs.Traces.{IsTraceOf, IsAttack}
use Rattle.dps_replay.specs.Answers.{IsReplay}
use Rattle.dps_replay.specs.declared.outcome.Replay.{Replay}
use Rattle.dps_replay.specs.declared.outcome.Replay.TheVariants.{NoRun, Attack, Matched}

-- the answer is an attack
abbrev pub SaysAttack : Replay → Type 0
SaysAttack (NoRun n) = ⊥
SaysAttack (Attack end tests) = ⊤
SaysAttack (Matched pairs) = ⊥

-- the answer is that there is no run
abbrev pub SaysNoRun : Replay → Type 0
SaysNoRun (NoRun n) = ⊤
SaysNoRun (Attack end tests) = ⊥
SaysNoRun (Matched pairs) = ⊥

-- a right answer is an attack exactly where the labels are one
abbrev pub AttacksAreAnswered : Type 0
AttacksAreAnswered =
    (problem : Problem) (side : Side) (word : List Label) (answer : Replay)
    → IsReplay problem side word answer
    → SaysAttack answer ↔ IsAttack problem side word

-- a right answer is that there is no run exactly where the side has no trace with the labels
abbrev pub MissingRunsAreAnswered : Type 0
MissingRunsAreAnswered =
    (problem : Problem) (side : Side) (word : List Label) (answer : Replay)
    → IsReplay problem side word answer
    → SaysNoRun answer ↔ ((frame : List Tree) → ¬ IsTraceOf problem side word frame)
