-- Each part of a process is smaller than the process.
use Rattle.std.specs.Prelude.{◌+◌, ◌≤◌, max, List, [], ◌∷◌}
use Rattle.std.proofs.Common.{arith}
use denote.Param.Weighed.{most}
use Rattle.dps_scopes.specs.Body.{Body, bodies, body_nodes, all_nodes}
use Rattle.dps_scopes.specs.Nodes.{body_of}
use Rattle.dps_scopes.specs.declared.body.Node.{Node}
use Rattle.dps_scopes.specs.declared.body.Node.TheVariants.{Nil, Parallel, Choice, Copies, Fresh, Input, Output, Conditional, Bind, Call}
use Rattle.dps_scopes.specs.declared.body.Body.TheDeep.{deep-Node}

pub most_le-all_nodes : (ps : List Body) → most (λ p. body_nodes p + 1) ps ≤ all_nodes (bodies ps) + 1
most_le-all_nodes [] = omega arith
most_le-all_nodes (p ∷ ps) = omega (arith, most_le-all_nodes ps)

pub deep_le-body_nodes : (n : Node) → max (deep-Node n) 0 ≤ body_nodes (body_of n)
deep_le-body_nodes Nil = omega arith
deep_le-body_nodes (Parallel ps) = omega (arith, most_le-all_nodes ps.items)
deep_le-body_nodes (Choice ps) = omega (arith, most_le-all_nodes ps.items)
deep_le-body_nodes (Copies n p) = omega arith
deep_le-body_nodes (Fresh p) = omega arith
deep_le-body_nodes (Input c steps p) = omega arith
deep_le-body_nodes (Output c u p) = omega arith
deep_le-body_nodes (Conditional u v p q) = omega arith
deep_le-body_nodes (Bind u steps p q) = omega arith
deep_le-body_nodes (Call n arguments) = omega arith
