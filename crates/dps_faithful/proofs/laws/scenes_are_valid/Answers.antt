use Rattle.dps_faithful.proofs.Validity.{scene_is_valid}
use Rattle.dps_faithful.proofs.laws.scenes_are_valid.Goals as goal

pub returns : goal.returns
returns c = λ problem node k sound low listed. scene_is_valid problem node sound k listed low
