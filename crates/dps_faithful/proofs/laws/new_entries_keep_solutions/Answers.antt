use Rattle.dps_faithful.proofs.Entering.{entering_keeps}
use Rattle.dps_faithful.proofs.laws.new_entries_keep_solutions.Goals as goal

pub returns : goal.returns
returns c = λ problem node recipe values s sound work. entering_keeps problem node sound work recipe values s
