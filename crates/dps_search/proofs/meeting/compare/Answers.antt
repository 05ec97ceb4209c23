use Rattle.dps_search.proofs.meeting.compare.Goals as goal

pub returns-then-equals : goal.returns-then-equals
returns-then-equals c = c.equals.ensures.0 c.if-equals.true

pub returns-then-are_apart : goal.returns-then-are_apart
returns-then-are_apart c = c.are_apart.ensures c.if-are_apart.true
