use Rattle.dps_process.specs.Process.{process_nodes}
use Rattle.dps_semantics.proofs.coming.+comes_to.Given as goal

abbrev pub decreases-comes_to : goal.decreases-comes_to
decreases-comes_to l = process_nodes l.process.now
