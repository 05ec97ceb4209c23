-- Silent parts commute with all else: what a part does silently by itself may be done at once. Each law is stated as one
-- fact of the part beside others.
use Rattle.std.specs.Prelude.{◌⊎◌, ◌↔◌, ℕ, List, [], ◌∷◌, ◌++◌}
use Rattle.dps_terms.specs.Tree.{Tree}
use Rattle.dps_signature.specs.Signature.{Signature}
use Rattle.dps_theory.specs.Theory.{Theory, IsAccepted, HasPlainRules}
use Rattle.dps_theory.specs.Evaluation.{Evaluates, IsMessage, AreEqual}
use Rattle.dps_process.specs.Process.{Process, nil, parallel, choice, conditional, bind, output, put}
use Rattle.dps_process.specs.Models.{Model}
use Rattle.dps_process.specs.Steps.{Config, Label}
use Rattle.dps_process.specs.Traces.{Ends}

-- the configuration with these parts besides
abbrev pub beside : List Process → Config → Config
beside ps c = record { parts = ps ++ c.parts; frame = c.frame }

-- both have runs with the same labels and the same last frames
pub record HaveSameEnds (model : Model) (signature : Signature) (theory : Theory) (c d : Config) : Type 0 where
  pub same : (word : List Label) (frame : List Tree) → Ends model signature theory c word frame ↔ Ends model signature theory d word frame

-- c has the runs of d and of e
pub record HasEndsOfBoth (model : Model) (signature : Signature) (theory : Theory) (c d e : Config) : Type 0 where
  pub same :
      (word : List Label) (frame : List Tree)
      → Ends model signature theory c word frame ↔ (Ends model signature theory d word frame ⊎ Ends model signature theory e word frame)

-- `0` is as nothing
abbrev pub NilIsUnseen : Type 0
NilIsUnseen =
    (model : Model) (signature : Signature) (theory : Theory) (c : Config)
    → HaveSameEnds model signature theory (beside (nil ∷ []) c) c

-- parallel processes are as two parts
abbrev pub ParallelIsTwoParts : Type 0
ParallelIsTwoParts =
    (model : Model) (signature : Signature) (theory : Theory) (p q : Process) (c : Config)
    → HaveSameEnds model signature theory (beside (parallel p q ∷ []) c) (beside (p ∷ q ∷ []) c)

-- a choice has the runs of both processes
abbrev pub ChoiceIsEither : Type 0
ChoiceIsEither =
    (model : Model) (signature : Signature) (theory : Theory) (p q : Process) (c : Config)
    → HasEndsOfBoth model signature theory (beside (choice p q ∷ []) c) (beside (p ∷ []) c) (beside (q ∷ []) c)

-- a test is as the branch that it takes
abbrev pub TestIsItsBranch : Type 0
TestIsItsBranch =
    (model : Model) (signature : Signature) (theory : Theory) (u v : Tree) (p q : Process) (c : Config)
    → (AreEqual theory u v → HaveSameEnds model signature theory (beside (conditional u v p q ∷ []) c) (beside (p ∷ []) c))
    × ((¬ AreEqual theory u v) → HaveSameEnds model signature theory (beside (conditional u v p q ∷ []) c) (beside (q ∷ []) c))

-- and so is a binding
abbrev pub BindingIsItsBranch : Type 0
BindingIsItsBranch =
    (model : Model) (signature : Signature) (theory : Theory) (x : ℕ) (u : Tree) (p q : Process) (c : Config)
    → IsAccepted theory
    → ((t : Tree) → Evaluates theory u t → HaveSameEnds model signature theory (beside (bind x u p q ∷ []) c) (beside (put x t p ∷ []) c))
    × ((¬ IsMessage theory u) → HaveSameEnds model signature theory (beside (bind x u p q ∷ []) c) (beside (q ∷ []) c))

-- an output is as the output of its term's value
abbrev pub OutputIsOfItsValue : Type 0
OutputIsOfItsValue =
    (model : Model) (signature : Signature) (theory : Theory) (d : ℕ) (u t : Tree) (p : Process) (c : Config)
    → IsAccepted theory
    → HasPlainRules theory
    → Evaluates theory u t
    → HaveSameEnds model signature theory (beside (output d u p ∷ []) c) (beside (output d t p ∷ []) c)

-- and the output of what is no message is as nothing
abbrev pub FailedOutputIsUnseen : Type 0
FailedOutputIsUnseen =
    (model : Model) (signature : Signature) (theory : Theory) (d : ℕ) (u : Tree) (p : Process) (c : Config)
    → (¬ IsMessage theory u)
    → HaveSameEnds model signature theory (beside (output d u p ∷ []) c) c

-- what runs goes on where more parts stand
abbrev pub MorePartsStand : Type 0
MorePartsStand =
    (model : Model) (signature : Signature) (theory : Theory) (ps : List Process) (c : Config) (word : List Label) (frame : List Tree)
    → Ends model signature theory c word frame
    → Ends model signature theory (beside ps c) word frame
