use Rattle.dps_faithful.proofs.Parting.{partition_sound}
use Rattle.dps_faithful.proofs.laws.partitions_keep_invariant.Goals as goal

pub returns : goal.returns
returns c = λ problem node one two holds sound e. partition_sound problem node one two holds sound e
