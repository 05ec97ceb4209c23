-- Configurations and their labelled steps.
use Rattle.std.specs.Prelude.{◌≡◌, ℕ, ◌+◌, List, [], ◌∷◌, ◌++◌, length}
use Rattle.dps_terms.specs.Tree.{Tree}
use Rattle.dps_signature.specs.Signature.{Signature, IsPublic}
use Rattle.dps_signature.specs.Kinds.{IsRecipe}
use Rattle.dps_theory.specs.Theory.{Theory}
use Rattle.dps_theory.specs.Evaluation.{Evaluates, IsMessage, AreEqual}
use Rattle.dps_theory.specs.Frames.{HasValue}
use Rattle.dps_process.specs.Models.{Model, MayMeet, IsOverheard}
use Rattle.dps_process.specs.Process.{Process, nil, parallel, choice, conditional, bind, input, output, put}

-- the parts that run side by side, and what they have put out
pub record Config : Type 0 where
  pub parts : List Process
  pub frame : List Tree

-- what a process starts as
abbrev pub start : Process → Config
start p = record { parts = p ∷ []; frame = [] }

-- what the attacker sees of a step: `in(c,R)` with the recipe that he sends, `out(c,axj)` with the handle that he gets,
-- or `eav(c,axj)` with the handle of what he overhears
pub data Label : Type 0 where
  inputs : ℕ → Tree → Label
  outputs : ℕ → ℕ → Label
  overhears : ℕ → ℕ → Label

pub data Action : Type 0 where
  silent : Action
  shows : Label → Action

-- p is one of the parts, and the others are left
pub data Removes (p : Process) : List Process → List Process → Type 0 where
  here : {ps : List Process} → Removes p (p ∷ ps) ps
  there : {q : Process} {ps rest : List Process} → Removes p ps rest → Removes p (q ∷ ps) (q ∷ rest)

-- What a part does by itself: the action, the parts that stand in its place, and what comes to the frame.
pub data PartSteps (signature : Signature) (theory : Theory) (frame : List Tree) : Process → Action → List Process → List Tree → Type 0 where
  -- `0` is gone
  ends : PartSteps signature theory frame nil silent [] []
  -- parallel processes become two parts
  splits : {p q : Process} → PartSteps signature theory frame (parallel p q) silent (p ∷ q ∷ []) []
  -- a choice becomes either
  first : {p q : Process} → PartSteps signature theory frame (choice p q) silent (p ∷ []) []
  second : {p q : Process} → PartSteps signature theory frame (choice p q) silent (q ∷ []) []
  -- a test passes where both terms evaluate to one value, and fails where they do not
  passes : {u v : Tree} {p q : Process} → AreEqual theory u v → PartSteps signature theory frame (conditional u v p q) silent (p ∷ []) []
  fails : {u v : Tree} {p q : Process} → ¬ AreEqual theory u v → PartSteps signature theory frame (conditional u v p q) silent (q ∷ []) []
  -- a binding takes the term's value, or the other branch where it has none
  binds : {x : ℕ} {u t : Tree} {p q : Process} → Evaluates theory u t → PartSteps signature theory frame (bind x u p q) silent (put x t p ∷ []) []
  binds_not : {x : ℕ} {u : Tree} {p q : Process} → ¬ IsMessage theory u → PartSteps signature theory frame (bind x u p q) silent (q ∷ []) []
  -- an input on a public channel takes the value of the attacker's recipe
  receives :
      {c x : ℕ} {p : Process} {r t : Tree} → IsPublic signature c → IsRecipe signature (length frame) r
      → HasValue theory frame r t → PartSteps signature theory frame (input c x p) (shows (inputs c r)) (put x t p ∷ []) []
  -- an output on a public channel puts its term's value at the frame's end
  sends :
      {c j : ℕ} {u t : Tree} {p : Process} → IsPublic signature c → Evaluates theory u t → j ≡ length frame + 1
      → PartSteps signature theory frame (output c u p) (shows (outputs c j)) (p ∷ []) (t ∷ [])

-- What two parts do together, a sender and a receiver on one channel: the action, what they become, and what comes to the
-- frame.
pub data Communicates (model : Model) (signature : Signature) (theory : Theory) (frame : List Tree) : Process → Process → Action → Process → Process → List Tree → Type 0 where
  -- unseen
  meets :
      {d x : ℕ} {u t : Tree} {p q : Process}
      → MayMeet model signature d
      → Evaluates theory u t
      → Communicates model signature theory frame (output d u p) (input d x q) silent p (put x t q) []
  -- overheard: the message comes to the frame's end
  overheard :
      {c x j : ℕ} {u t : Tree} {p q : Process}
      → IsOverheard model signature c
      → Evaluates theory u t
      → j ≡ length frame + 1
      → Communicates model signature theory frame (output c u p) (input c x q) (shows (overhears c j)) p (put x t q) (t ∷ [])

-- one part moves by itself, or two communicate; all else stays
pub data Step (model : Model) (signature : Signature) (theory : Theory) (c : Config) : Action → Config → Type 0 where
  alone :
      {action : Action} {d : Config} {part : Process} {become others : List Process} {added : List Tree}
      → Removes part c.parts others
      → PartSteps signature theory c.frame part action become added
      → d.parts ≡ become ++ others
      → d.frame ≡ c.frame ++ added
      → Step model signature theory c action d
  together :
      {action : Action} {d : Config} {sender receiver sent received : Process} {others rest : List Process} {added : List Tree}
      → Removes sender c.parts others
      → Removes receiver others rest
      → Communicates model signature theory c.frame sender receiver action sent received added
      → d.parts ≡ sent ∷ received ∷ rest
      → d.frame ≡ c.frame ++ added
      → Step model signature theory c action d

-- the same parts in any order
pub data IsReordered : List Process → List Process → Type 0 where
  no_parts : IsReordered [] []
  a_part : {p : Process} {ps qs rest : List Process} → Removes p qs rest → IsReordered ps rest → IsReordered (p ∷ ps) qs

-- configurations are bags of parts: what is one up to the order of the parts
pub record AreOneBag (c d : Config) : Type 0 where
  pub parts : IsReordered c.parts d.parts
  pub frame : c.frame ≡ d.frame
