use Rattle.dps_terms.specs.Seen.{seen}
use Rattle.dps_symeval.proofs.FreeNodes.{root_told}
use Rattle.dps_symeval.proofs.agenda.has_destructor_root.Goals as goal

pub returns-in-App : goal.returns-in-App
returns-in-App c = root_told c.args.theory.now (seen c.args.term) c.in-App.sym c.is_destructor.result c.in-App.ensures c.is_destructor.ensures
