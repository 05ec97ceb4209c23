use Rattle.dps_process.specs.Models.{Model, model_of}
use Rattle.dps_lex.specs.declared.vocabulary.Place.{Place}
use Rattle.dps_meaning.specs.Causes.{cause_of, cause_text}
use Rattle.dps_judge.specs.Judgement.{JudgesFile, Refuses}
use Rattle.std.proofs.Common.{subst}
use Rattle.dps_judge.proofs.Answering.{in_ok, faulty_judged}
use Rattle.dps_judge.proofs.judging.judge_file.Goals as goal

pub problem-requires : goal.problem-requires
problem-requires c = c.requires

pub judge_problem-requires : goal.judge_problem-requires
judge_problem-requires c = record { read = c.requires; means = c.in-Ok.ensures.means; lawful = c.in-Ok.ensures.lawful }

pub returns-in-Ok : goal.returns-in-Ok
returns-in-Ok c =
    let decls = c.args.file.now.declarations.items in
    let model = model_of c.args.model in
    in_ok c.judge_problem.result (JudgesFile c.in-Ok.found.model decls) (JudgesFile model decls)
    (λ v h. subst (λ (m : Model). JudgesFile m decls v) c.in-Ok.ensures.model h) c.judge_problem.ensures

pub returns-in-Err-Fault : goal.returns-in-Err-Fault
returns-in-Err-Fault c =
    let decls = c.args.file.now.declarations.items in
    let model = model_of c.args.model in
    let place : Place = record { line = c.in-Err-Fault.line; column = c.in-Err-Fault.column } in
    let cause = cause_of c.in-Err-Fault.cause in
    in_ok c.faulty.result (Refuses place (cause_text cause)) (JudgesFile model decls)
    (λ v h. faulty_judged model decls place cause (rw c.in-Err-Fault.field-0-is at c.in-Err-Fault.ensures.refused) v h) c.faulty.ensures

pub returns-in-Err-Memory : goal.returns-in-Err-Memory
returns-in-Err-Memory c = tt
