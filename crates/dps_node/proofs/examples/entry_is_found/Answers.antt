use Rattle.dps_node.proofs.Entries.{entry_is_found}
use Rattle.dps_node.proofs.examples.entry_is_found.Goals as goal

pub returns : goal.returns
returns c = entry_is_found
