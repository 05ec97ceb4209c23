use Rattle.dps_meaning.proofs.Answering.{names_refused}
use Rattle.dps_meaning.proofs.theory.check_theory.Goals as goal

pub returns-in-Err-clause-refused : goal.returns-in-Err-clause-refused
returns-in-Err-clause-refused c = names_refused c.args.file.now.declarations.items c.in-Err.refusal c.of_names.result c.in-Err.ensures c.of_names.ensures
