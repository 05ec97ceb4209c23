use Rattle.dps_recipes.proofs.Valuing.{no_frame}
use Rattle.dps_recipes.proofs.evaluation.evaluate.Goals as goal

pub returns : goal.returns
returns c = no_frame c.args.theory.now c.args.term.now c.in_ok-found.found (rw c.whole.ensures at c.in_ok-found.ensures)
