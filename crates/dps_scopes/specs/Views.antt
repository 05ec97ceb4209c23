-- The process that a view shows.
use Rattle.dps_scopes.specs.Body.{Body, nil, parallel, choice, copies, fresh, input, output, conditional, bind, call, bodies}
use Rattle.dps_scopes.specs.declared.body.BodyView.{BodyView}
use Rattle.dps_scopes.specs.declared.body.BodyView.TheVariants.{Nil, Parallel, Choice, Copies, Fresh, Input, Output, Conditional, Bind, Call}

abbrev pub shown : BodyView → Body
shown Nil = nil
shown (Parallel ps) = parallel (bodies ps.now)
shown (Choice ps) = choice (bodies ps.now)
shown (Copies n p) = copies n p.now
shown (Fresh p) = fresh p.now
shown (Input c steps p) = input c.now steps.now p.now
shown (Output c u p) = output c.now u.now p.now
shown (Conditional u v p q) = conditional u.now v.now p.now q.now
shown (Bind u steps p q) = bind u.now steps.now p.now q.now
shown (Call n arguments) = call n arguments.now
