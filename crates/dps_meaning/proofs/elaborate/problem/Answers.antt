use Rattle.dps_meaning.proofs.Answering.{theory_refused}
use Rattle.dps_meaning.proofs.elaborate.problem.Goals as goal

pub returns-in-Err-clause-refused : goal.returns-in-Err-clause-refused
returns-in-Err-clause-refused c = theory_refused c.args.file.now.declarations.items c.in-Err.refusal c.in-Err.ensures.refused
