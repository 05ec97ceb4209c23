-- What a label asks of a part, and what the part does.
use Rattle.std.specs.Prelude.{◌≡◌, ◌+◌, List, [], ◌∷◌, length, Option, Some, None, ⊤}
use Rattle.dps_terms.specs.Tree.{Tree}
use Rattle.dps_signature.specs.Signature.{IsPublic}
use Rattle.dps_terms.specs.Kinds.{IsClosed}
use Rattle.dps_signature.specs.Kinds.{IsRecipe}
use Rattle.dps_theory.specs.Theory.{Theory}
use Rattle.dps_theory.specs.Evaluation.{Evaluates}
use Rattle.dps_theory.specs.Frames.{HasValue}
use Rattle.dps_process.specs.Process.{Process, input, output, put}
use Rattle.dps_process.specs.Problem.{Problem}
use Rattle.dps_process.specs.Steps.{Label, inputs, outputs}
use Rattle.dps_semantics.specs.declared.moving.Asked.{Asked}
use Rattle.dps_semantics.specs.declared.moving.Asked.TheVariants.{Input, Output}
use Rattle.dps_semantics.specs.declared.moving.Moved.{Moved}

-- the label asks just this where the frame stands
abbrev pub IsAsked : Problem → List Tree → Label → Asked → Type 0
IsAsked problem frame (inputs c r) (Input d t) =
    (d ≡ c) × IsPublic problem.signature c × IsRecipe problem.signature (length frame) r × HasValue problem.theory frame r t
IsAsked problem frame (outputs c j) (Output d) = (d ≡ c) × IsPublic problem.signature c × (j ≡ length frame + 1)
IsAsked problem frame label asked = ⊥

-- the message that is asked for holds no variable
abbrev pub IsClosedAsked : Asked → Type 0
IsClosedAsked (Input d t) = IsClosed t
IsClosedAsked (Output d) = ⊤

-- no part can show the label there
abbrev pub IsNotAsked : Problem → List Tree → Label → Type 0
IsNotAsked problem frame label = (asked : Asked) → ¬ IsAsked problem frame label asked

-- what comes to the frame
abbrev pub added_by : Option Tree → List Tree
added_by None = []
added_by (Some t) = t ∷ []

-- the part becomes this, and puts this out
abbrev pub GoesOn : Theory → Process → Asked → Process → List Tree → Type 0
GoesOn theory (input c x p) (Input d t) then added = (c ≡ d) × (then ≡ put x t p) × (added ≡ [])
GoesOn theory (output c u p) (Output d) then added = (c ≡ d) × (then ≡ p) × ((t : Tree) × Evaluates theory u t × (added ≡ t ∷ []))
GoesOn theory part asked then added = ⊥

abbrev pub MovesAs : Theory → Process → Asked → Moved → Type 0
MovesAs theory part asked moved = GoesOn theory part asked moved.then (added_by moved.added)

-- it does not do so
abbrev pub DoesNotMove : Theory → Process → Asked → Type 0
DoesNotMove theory part asked = (then : Process) (added : List Tree) → ¬ GoesOn theory part asked then added
