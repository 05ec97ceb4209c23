use Rattle.dps_faithful.proofs.Parting.{partition_parts}
use Rattle.dps_faithful.proofs.laws.partitions_part.Goals as goal

pub returns : goal.returns
returns c = λ problem node one two holds e long apart. partition_parts problem node one two holds e long apart
