-- Bodies that add no node to a side: calls, new names and single copies. Each comes to another body, with more locals.
use Rattle.std.specs.Prelude.{◌≡◌, ℕ, ◌+◌, ◌<◌, ◌≤◌, List, [], ◌∷◌, length, take, ⊤}
use Rattle.dps_process.specs.Process as process
use Rattle.dps_process.specs.Process.{Process}
use Rattle.dps_scopes.specs.Body.{Body, Bodies, parallel, choice, body_nodes}
use Rattle.dps_scopes.specs.Views.{shown}
use Rattle.dps_scopes.specs.declared.body.BodyView.{BodyView}
use Rattle.dps_scopes.specs.declared.body.BodyView.TheVariants.{Nil, Parallel, Choice, Copies, Fresh, Input, Output, Conditional, Bind, Call}
use Rattle.dps_names.specs.Program.{Definition}
use Rattle.dps_elab.specs.Expansion.{Expanding, expansion_of}
use Rattle.dps_elab.specs.Locals.{locals_from}
use Rattle.dps_elab.specs.declared.local.Local.{Local}
use Rattle.dps_elab.specs.declared.settle.Join.{Join}
use Rattle.dps_elab.specs.declared.settle.Join.TheVariants.{ByParallel, ByChoice}
use Rattle.dps_elab.specs.declared.settle.Scope.{Scope}
use Rattle.dps_elab.specs.declared.settle.Turn.{Turn}
use Rattle.dps_elab.specs.declared.settle.Turn.TheVariants.{Further, Reached}

-- a sign between processes, and a chain of that sign
abbrev pub joined : Join → Process → Process → Process
joined ByParallel = process.parallel
joined ByChoice = process.choice

abbrev pub chain_of : Join → Bodies → Body
chain_of ByParallel = parallel
chain_of ByChoice = choice

-- the process of a body that stands in a scope
abbrev pub written_in : Scope → List Local → Body → Expanding
written_in scope stack body = expansion_of scope.private_names.now scope.definitions.now body (locals_from scope.first stack)

-- The body adds a node.
abbrev pub IsCounted : BodyView → Type 0
IsCounted Nil = ⊤
IsCounted (Parallel ps) = 1 < length ps.now
IsCounted (Choice ps) = 1 < length ps.now
IsCounted (Copies n p) = 1 < n
IsCounted (Fresh p) = ⊥
IsCounted (Input c steps p) = ⊤
IsCounted (Output c u p) = ⊤
IsCounted (Conditional u v p q) = ⊤
IsCounted (Bind u steps p q) = ⊤
IsCounted (Call n arguments) = ⊥

-- Another body has the same process, from where more is on the stack, and more private names are numbered.
pub record IsTurned (scope : Scope) (old : List Local) (body : Body) (name : ℕ) (inner : Scope) (new : List Local) (next : Body) (after : ℕ) : Type 0 where
  pub same : (variable : ℕ) → written_in inner new next (record { variable = variable; name = after }) ≡ written_in scope old body (record { variable = variable; name = name })
  pub kept : take (length old) new ≡ old
  pub longer : length old ≤ length new
  pub within : inner.first ≤ length new

-- how much may be gone through
abbrev pub definition_nodes : List Definition → ℕ
definition_nodes [] = 0
definition_nodes (d ∷ ds) = 1 + body_nodes d.body + definition_nodes ds

abbrev pub weight : List Definition → Body → ℕ
weight definitions body = body_nodes body + definition_nodes definitions

-- one turn: towards a body that is left to go through, or to one that adds a node
abbrev pub IsTurn : Scope → List Local → Body → ℕ → Turn → List Local → ℕ → Type 0
IsTurn scope old body name (Further inner next) new after =
    IsTurned scope old body name inner new next.now after × (weight inner.definitions.now next.now < weight scope.definitions.now body)
IsTurn scope old body name (Reached inner view) new after = IsTurned scope old body name inner new (shown view) after × IsCounted view
