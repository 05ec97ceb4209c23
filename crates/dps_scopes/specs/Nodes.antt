-- What a process in memory stands for.
use Rattle.dps_scopes.specs.Body.{Body, nil, parallel, choice, copies, fresh, input, output, conditional, bind, call, bodies}
use Rattle.dps_scopes.specs.declared.body.Node.{Node}
use Rattle.dps_scopes.specs.declared.body.Node.TheVariants.{Nil, Parallel, Choice, Copies, Fresh, Input, Output, Conditional, Bind, Call}

abbrev pub body_of : Node → Body
body_of Nil = nil
body_of (Parallel ps) = parallel (bodies ps.items)
body_of (Choice ps) = choice (bodies ps.items)
body_of (Copies n p) = copies n p.value
body_of (Fresh p) = fresh p.value
body_of (Input c steps p) = input c steps.items p.value
body_of (Output c u p) = output c u p.value
body_of (Conditional u v p q) = conditional u v p.value q.value
body_of (Bind u steps p q) = bind u steps.items p.value q.value
body_of (Call n arguments) = call n arguments.items
