use Rattle.std.proofs.Common.{◌≡◌, ◌++◌}
use Rattle.dps_core.specs.Pool.{tickets, without}
use Rattle.dps_core.proofs.tickets.Tickets.posted.Given as goal

abbrev pub invariant-loop-number : goal.invariant-loop-number
invariant-loop-number l = l.hand ≡ without l.ticket l.fn.self ++ tickets l.first l.number
