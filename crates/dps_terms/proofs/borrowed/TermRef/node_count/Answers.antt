use Rattle.dps_terms.proofs.Walking.{as_many, at_end}
use Rattle.dps_terms.proofs.borrowed.TermRef.node_count.Goals as goal

pub returns-clause-count : goal.returns-clause-count
returns-clause-count c = as_many c.args.self.cells.now c.args.self.again

pub returns-clause-end : goal.returns-clause-end
returns-clause-end c = at_end c.args.self.cells.now c.args.self.again
