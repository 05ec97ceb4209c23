use Rattle.std.proofs.Common.{sym}
use Rattle.dps_judge.specs.Judgement.{JudgesFile, Refuses, not_built, IsAnswered}
use Rattle.dps_judge.proofs.Answering.{in_ok, unbuilt_judged, answered_judged}
use Rattle.dps_judge.proofs.judging.judge_problem.Goals as goal

pub returns-in-Some : goal.returns-in-Some
returns-in-Some c =
    let decls = c.args.file.now.declarations.items in
    let problem = c.args.problem in
    in_ok c.refused.result (Refuses c.in-Some.place not_built) (JudgesFile problem.model decls)
    (λ v h. unbuilt_judged decls problem c.in-Some.place c.requires.means (sym c.in-Some.ensures) v h) c.refused.ensures

pub answer-requires : goal.answer-requires
answer-requires c =
    let text = c.requires.read in
    c.built_texts_are_plain.ensures text.bytes c.args.file.now.declarations.items c.args.problem text.text (sym c.in-None.ensures) c.requires.means c.requires.lawful

pub returns-in-None : goal.returns-in-None
returns-in-None c =
    let decls = c.args.file.now.declarations.items in
    let problem = c.args.problem in
    in_ok c.answer.result (IsAnswered problem) (JudgesFile problem.model decls)
    (λ v a. answered_judged decls problem c.requires.means (sym c.in-None.ensures) v a) c.answer.ensures
