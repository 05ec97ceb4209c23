use Rattle.dps_faithful.proofs.Recording.{same_solutions}
use Rattle.dps_faithful.proofs.laws.recording_keeps_solutions.Goals as goal

pub returns : goal.returns
returns c = λ problem node k e at t s sound low work listed there free is composed value.
    same_solutions problem node sound work low k listed e at there free t is composed value s
