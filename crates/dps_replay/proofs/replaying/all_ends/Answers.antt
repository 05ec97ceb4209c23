use Rattle.std.proofs.Common.{List, map, sym, subst}
use Rattle.dps_process.specs.Labels.{label_of}
use Rattle.dps_process.specs.Steps.{Config}
use Rattle.dps_semantics.specs.declared.outcome.Runs.{Runs}
use Rattle.dps_semantics.specs.Answers.{IsAnswer}
use Rattle.dps_replay.specs.Ends.{HasAllEnds}
use Rattle.dps_replay.proofs.Answering.{no_ends}
use Rattle.dps_replay.proofs.replaying.all_ends.Goals as goal

pub returns-in-Stuck : goal.returns-in-Stuck
returns-in-Stuck c =
    let problem = c.args.problem.now in
    let word = map label_of c.args.word.now in
    let stuck = subst (λ (r : Runs). IsAnswer problem c.args.side word r) c.in-Stuck.is c.in_ok-runs.ensures in
    subst (λ (cs : List Config). HasAllEnds problem c.args.side word cs) (sym c.new.ensures.items) (no_ends c.prefixes_are_traces.ensures problem c.args.side word c.in-Stuck.field-0 stuck)
