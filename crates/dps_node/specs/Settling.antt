-- Rule 2: tests, bindings, choices and parallel parts are settled.
use Rattle.std.specs.Prelude.{◌≡◌, ℕ, ◌+◌, List, [], ◌∷◌, ◌++◌, Option, Some, None, map, All, ⊤}
use Rattle.dps_terms.specs.Tree.{Tree}
use Rattle.dps_process.specs.Process.{Process, nil, parallel, choice, conditional, bind, input, output, put}
use Rattle.dps_process.specs.Problem.{destructors}
use Rattle.dps_theory.specs.Theory.{Theory}
use Rattle.dps_solver.specs.Search.{GeneralSolution}
use Rattle.dps_node.specs.Node.{SymbolicConfig, Node, at_count, with_configs}
use Rattle.dps_node.specs.Splits.{IsSplit}
use Rattle.dps_node.specs.Questions.{Question, Found, test, eval, value_of, decided, undecided, Answers, Asks}
use Rattle.dps_node.specs.Outcome.{Outcome, changed, kids}

-- A part is ready where it waits for its channel alone: an input, or an output of a term without destructors.
abbrev pub IsReady : Theory → Process → Type 0
IsReady theory nil = ⊥
IsReady theory (parallel p q) = ⊥
IsReady theory (choice p q) = ⊥
IsReady theory (conditional u v p q) = ⊥
IsReady theory (bind x u p q) = ⊥
IsReady theory (input c x p) = ⊤
IsReady theory (output c u p) = destructors theory.shapes u ≡ 0

abbrev pub AreReady : Theory → SymbolicConfig → Type 0
AreReady theory c = All (IsReady theory) c.parts

-- no part of the node is to be settled
abbrev pub IsSettled : Theory → Node → Type 0
IsSettled theory node = All (AreReady theory) node.configs

-- the first configuration with a part that is not ready, and its first such part, with what stands around them
pub record FirstUnready (theory : Theory) (node : Node) (p : Process) : Type 0 where
  pub before : List SymbolicConfig
  pub config : SymbolicConfig
  pub after : List SymbolicConfig
  pub front : List Process
  pub back : List Process
  pub configs : node.configs ≡ before ++ (config ∷ after)
  pub parts : config.parts ≡ front ++ (p ∷ back)
  pub ready_before : All (AreReady theory) before
  pub ready_front : All (IsReady theory) front
  pub unready : ¬ IsReady theory p

-- a part that goes on without a question: the lists of parts that it becomes, one for each branch
pub data Unfolds : Process → List (List Process) → Type 0 where
  ends : Unfolds nil ([] ∷ [])
  forks : {p q : Process} → Unfolds (parallel p q) ((p ∷ q ∷ []) ∷ [])
  chooses : {p q : Process} → Unfolds (choice p q) ((p ∷ []) ∷ (q ∷ []) ∷ [])

-- a part that asks: the question, and what the part becomes where it is true, with the value that was found, and where it
-- is false
pub data AsksFor (theory : Theory) (node : Node) : Process → Question → (Tree → Process) → Process → Type 0 where
  tests : {u v : Tree} {p q : Process} → AsksFor theory node (conditional u v p q) (test theory node u v) (λ t. p) q
  binds : {x : ℕ} {u : Tree} {p q : Process} → AsksFor theory node (bind x u p q) (eval theory node u) (λ t. put x t p) q
  sends : {c : ℕ} {u : Tree} {p : Process} → AsksFor theory node (output c u p) (eval theory node u) (λ t. output c t p) nil

-- the node with these lists of parts in the place of the part, each in a configuration of its own
abbrev pub in_place : {theory : Theory} {node : Node} {p : Process} → FirstUnready theory node p → List (List Process) → List SymbolicConfig
in_place first become =
    first.before ++ (map (λ ps. record (first.config) { parts = first.front ++ (ps ++ first.back) }) become ++ first.after)

-- what the part becomes where the question is decided
abbrev pub decided_as : (Tree → Process) → Process → Option Found → Process
decided_as true_part false_part (Some f) = true_part (value_of f)
decided_as true_part false_part None = false_part

pub data Settles (theory : Theory) (node : Node) : Outcome → Type 0 where
  unfolds :
      {p : Process} {become : List (List Process)} {outcome : Outcome}
      → (first : FirstUnready theory node p)
      → Unfolds p become
      → outcome ≡ changed (with_configs node (in_place first become))
      → Settles theory node outcome
  decides :
      {p false_part : Process} {question : Question} {true_part : Tree → Process} {o : Option Found} {steps : ℕ} {outcome : Outcome}
      → (first : FirstUnready theory node p)
      → AsksFor theory node p question true_part false_part
      → Asks Answers node first.config question (decided o) steps
      → outcome ≡ changed (at_count (with_configs node (in_place first ((decided_as true_part false_part o ∷ []) ∷ []))) (node.count + steps))
      → Settles theory node outcome
  divides :
      {p false_part : Process} {question : Question} {true_part : Tree → Process} {s : GeneralSolution} {steps : ℕ} {split : List Node} {outcome : Outcome}
      → (first : FirstUnready theory node p)
      → AsksFor theory node p question true_part false_part
      → Asks Answers node first.config question (undecided s) steps
      → IsSplit (at_count node (node.count + steps)) s.bindings split
      → outcome ≡ kids (node.count + steps) split
      → Settles theory node outcome
