-- Traces, trace equivalence and attacks.
use Rattle.std.specs.Prelude.{◌≡◌, List, [], ◌∷◌}
use Rattle.dps_branch.specs.declared.Side.{Side}
use Rattle.dps_branch.specs.Sides.{opposite}
use Rattle.dps_terms.specs.Tree.{Tree}
use Rattle.dps_signature.specs.Signature.{Signature}
use Rattle.dps_theory.specs.Theory.{Theory}
use Rattle.dps_theory.specs.Frames.{AreStaticallyEquivalent}
use Rattle.dps_process.specs.Models.{Model}
use Rattle.dps_process.specs.Process.{Process}
use Rattle.dps_process.specs.Problem.{Problem, side_of}
use Rattle.dps_process.specs.Steps.{Config, start, Label, silent, shows, Step}

-- a list of steps with these labels, the silent steps left out
pub data Runs (model : Model) (signature : Signature) (theory : Theory) : Config → List Label → Config → Type 0 where
  done : {c : Config} → Runs model signature theory c [] c
  silently : {c d e : Config} {word : List Label} → Step model signature theory c silent d → Runs model signature theory d word e → Runs model signature theory c word e
  visibly : {c d e : Config} {label : Label} {word : List Label} → Step model signature theory c (shows label) d → Runs model signature theory d word e → Runs model signature theory c (label ∷ word) e

-- some run of the configuration has these labels and ends with this frame
abbrev pub Ends : Model → Signature → Theory → Config → List Label → List Tree → Type 0
Ends model signature theory c word frame = (d : Config) × Runs model signature theory c word d × (d.frame ≡ frame)

-- a trace of a process: the labels of a run from its start, and the frame at its end
abbrev pub IsTrace : Model → Signature → Theory → Process → List Label → List Tree → Type 0
IsTrace model signature theory p word frame = Ends model signature theory (start p) word frame

-- the process has a trace with these labels and a statically equivalent frame
pub record Matches (model : Model) (signature : Signature) (theory : Theory) (p : Process) (word : List Label) (frame : List Tree) : Type 0 where
  pub other : List Tree
  pub trace : IsTrace model signature theory p word other
  pub equivalent : AreStaticallyEquivalent signature theory frame other

-- each trace of p is matched by q
pub record IsIncluded (model : Model) (signature : Signature) (theory : Theory) (p q : Process) : Type 0 where
  pub matched : (word : List Label) (frame : List Tree) → IsTrace model signature theory p word frame → Matches model signature theory q word frame

-- Trace equivalence: each trace of either is matched by the other.
pub record AreTraceEquivalent (model : Model) (signature : Signature) (theory : Theory) (p q : Process) : Type 0 where
  pub forth : IsIncluded model signature theory p q
  pub back : IsIncluded model signature theory q p

-- what `equivalent` says of a problem
abbrev pub IsEquivalent : Problem → Type 0
IsEquivalent problem = AreTraceEquivalent problem.model problem.signature problem.theory problem.left problem.right

-- a trace of one side of a problem
abbrev pub IsTraceOf : Problem → Side → List Label → List Tree → Type 0
IsTraceOf problem side word frame = IsTrace problem.model problem.signature problem.theory (side_of problem side) word frame

-- What `not equivalent` says of a problem, a side and labels: some trace of the side with these labels is matched by no
-- trace of the other.
pub record IsAttack (problem : Problem) (side : Side) (word : List Label) : Type 0 where
  pub frame : List Tree
  pub trace : IsTraceOf problem side word frame
  pub unmatched : ¬ Matches problem.model problem.signature problem.theory (side_of problem (opposite side)) word frame
