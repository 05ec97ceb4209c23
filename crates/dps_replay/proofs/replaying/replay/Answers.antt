use Rattle.std.proofs.Common.{List, map, subst, arith}
use Rattle.dps_bags.proofs.Holding.{mapped_length}
use Rattle.dps_branch.specs.declared.Side.{Side}
use Rattle.dps_branch.specs.Sides.{opposite}
use Rattle.dps_theory.specs.Theory.{Theory}
use Rattle.dps_process.specs.Labels.{label_of}
use Rattle.dps_process.specs.Steps.{Config}
use Rattle.dps_semantics.specs.declared.outcome.Runs.{Runs}
use Rattle.dps_semantics.specs.Answers.{IsAnswer}
use Rattle.dps_replay.specs.Ends.{HasAllEnds}
use Rattle.dps_replay.specs.Matching.{IsVerdict}
use Rattle.dps_replay.proofs.Answering.{are_level, all_ends, answered}
use Rattle.dps_replay.proofs.replaying.replay.Goals as goal

pub verdict-requires : goal.verdict-requires
verdict-requires c =
    let problem = c.args.problem.now in
    let side = c.args.side in
    let word = map label_of c.args.word.now in
    let ends = c.in-Ends.ends.items in
    let others = c.in_ok-others-in-Ends.others.items in
    let found = subst (λ (r : Runs). IsAnswer problem side word r) c.in-Ends.is c.in_ok-label.ensures in
    let has_others = subst (λ (s : Side). HasAllEnds problem s word others) c.opposite.ensures c.in_ok-others-in-Ends.ensures in
    rw c.deref.ensures.value
    (are_level c.traces_have_lawful_labels.ensures problem side (opposite side) word ends others (all_ends problem side word ends found) has_others
    (omega (arith, c.requires, mapped_length label_of c.args.word.now)))

pub returns-in_ok-answer-in-Ends : goal.returns-in_ok-answer-in-Ends
returns-in_ok-answer-in-Ends c =
    let problem = c.args.problem.now in
    let side = c.args.side in
    let word = map label_of c.args.word.now in
    let ends = c.in-Ends.ends.items in
    let others = c.in_ok-others-in-Ends.others.items in
    let answer = c.in_ok-answer-in-Ends.answer in
    let found = subst (λ (r : Runs). IsAnswer problem side word r) c.in-Ends.is c.in_ok-label.ensures in
    let has_others = subst (λ (s : Side). HasAllEnds problem s word others) c.opposite.ensures c.in_ok-others-in-Ends.ensures in
    let judged = subst (λ (t : Theory). IsVerdict t ends c.deref.result.now answer) c.theory.ensures.theory c.in_ok-answer-in-Ends.ensures in
    let verdict = subst (λ (cs : List Config). IsVerdict problem.theory ends cs answer) c.deref.ensures.value judged in
    answered problem side word ends others c.theory.ensures.lawful c.traces_end_in_frames.ensures c.bags_reflexive.ensures (all_ends problem side word ends found) has_others
    c.answers_decide.ensures found.some answer verdict
