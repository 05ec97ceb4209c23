-- The partition tree: the rules in their order, the budget, paths and stops.
use Rattle.std.specs.Prelude.{◌≡◌, ℕ, ◌<◌, ◌≤◌, ◌⊎◌, true, false, List, [], ◌∷◌, ◌++◌, Some, slice_get, All, ⊤}
use Rattle.dps_branch.specs.declared.Side.{Side}
use Rattle.dps_process.specs.Problem.{Problem}
use Rattle.dps_node.specs.Node.{SymbolicConfig, Node, root}
use Rattle.dps_node.specs.Outcome.{Outcome, changed, kids}
use Rattle.dps_node.specs.Settling.{IsSettled, Settles}
use Rattle.dps_node.specs.Knowing.{Knows}
use Rattle.dps_node.specs.Mixing.{AreMixed, Mixes}
use Rattle.dps_node.specs.Showing.{shown, Keeps}

-- Rules 2 to 4: the first of them that applies has this outcome.
pub data Acts (problem : Problem) (node : Node) : Outcome → Type 0 where
  settles : {outcome : Outcome} → ¬ IsSettled problem.theory node → Settles problem.theory node outcome → Acts problem node outcome
  knows :
      {outcome : Outcome}
      → IsSettled problem.theory node → node.closed ≡ false → Knows problem.theory node outcome
      → Acts problem node outcome
  mixes :
      {outcome : Outcome}
      → IsSettled problem.theory node → node.closed ≡ true → ¬ AreMixed node → Mixes problem.model problem.signature node outcome
      → Acts problem node outcome

-- none of them applies
pub record IsThrough (problem : Problem) (node : Node) : Type 0 where
  pub settled : IsSettled problem.theory node
  pub closed : node.closed ≡ true
  pub mixed : AreMixed node

-- Where no configuration stands on the other side, the node is at an end. Else it is expanded by the rules, whatever the
-- count: the kids, and the count at which they come.
pub data Expands (problem : Problem) : Node → ℕ → List Node → Type 0 where
  changes :
      {node other : Node} {n : ℕ} {ks : List Node}
      → Acts problem node (changed other) → Expands problem other n ks
      → Expands problem node n ks
  divides : {node : Node} {n : ℕ} {ks : List Node} → Acts problem node (kids n ks) → Expands problem node n ks
  shows :
      {node : Node} {n : ℕ} {ks : List Node}
      → IsThrough problem node → Keeps (shown problem.signature node) ks → n ≡ node.count
      → Expands problem node n ks

-- why the tree ends at a node
pub data Stop : Type 0 where
  attack : Side → Stop
  spent : Stop

pub data Look : Type 0 where
  stop : Stop → Look
  branches : List Node → Look

-- all configurations are of one side
abbrev pub IsOneSided : Side → Node → Type 0
IsOneSided side node = All (λ (c : SymbolicConfig). c.side ≡ side) node.configs

-- What an expansion within the budget makes of a node. It is spent where each expansion takes more steps than the budget
-- has: as one step is made after another, the next one would pass the budget.
pub data Looks (problem : Problem) (budget : ℕ) (node : Node) : Look → Type 0 where
  attacks : {side : Side} {look : Look} → IsOneSided side node → look ≡ stop (attack side) → Looks problem budget node look
  is_spent :
      {look : Look}
      → ((side : Side) → ¬ IsOneSided side node)
      → ((n : ℕ) (ks : List Node) → Expands problem node n ks → budget < n)
      → look ≡ stop spent
      → Looks problem budget node look
  expands :
      {n : ℕ} {ks : List Node} {look : Look}
      → ((side : Side) → ¬ IsOneSided side node)
      → Expands problem node n ks → n ≤ budget
      → look ≡ branches ks
      → Looks problem budget node look

-- the node at a path: the root's is empty, and kid i is one further
pub data IsAt (problem : Problem) (budget : ℕ) : List ℕ → Node → Type 0 where
  at_root : {node : Node} → node ≡ root problem → IsAt problem budget [] node
  at_kid :
      {path longer : List ℕ} {node kid : Node} {ks : List Node} (i : ℕ)
      → IsAt problem budget path node
      → Looks problem budget node (branches ks)
      → slice_get ks i ≡ Some kid
      → longer ≡ path ++ i ∷ []
      → IsAt problem budget longer kid

-- the order of paths: lexicographic, with a proper prefix first
abbrev pub ComesFirst : List ℕ → List ℕ → Type 0
ComesFirst p [] = ⊥
ComesFirst [] (j ∷ q) = ⊤
ComesFirst (i ∷ p) (j ∷ q) = (i < j) ⊎ ((i ≡ j) × ComesFirst p q)

-- a path at which the tree stops
pub record StopsAt (problem : Problem) (budget : ℕ) (path : List ℕ) (why : Stop) : Type 0 where
  pub node : Node
  pub place : IsAt problem budget path node
  pub looks : Looks problem budget node (stop why)

-- the least such path
pub record IsFirstStop (problem : Problem) (budget : ℕ) (path : List ℕ) (why : Stop) : Type 0 where
  pub stops : StopsAt problem budget path why
  pub first : (other : List ℕ) (cause : Stop) → StopsAt problem budget other cause → ¬ ComesFirst other path
