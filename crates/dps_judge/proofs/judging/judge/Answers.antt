use Rattle.dps_lex.specs.Spelling.{fault_words}
use Rattle.dps_process.specs.Models.{model_of}
use Rattle.dps_judge.specs.Judgement.{IsJudged, JudgesFile, Refuses}
use Rattle.dps_judge.proofs.Answering.{of_text, in_ok, unread_judged}
use Rattle.dps_judge.proofs.judging.judge.Goals as goal

pub read_file-requires : goal.read_file-requires
read_file-requires c = c.requires

pub judge_file-requires : goal.judge_file-requires
judge_file-requires c = of_text c.read_files_are_declared.ensures c.args.bytes.now c.in-Ok.file c.requires c.in-Ok.ensures

pub returns-in-Ok : goal.returns-in-Ok
returns-in-Ok c =
    let model = model_of c.args.model in
    in_ok c.judge_file.result (JudgesFile model c.in-Ok.file.declarations.items) (IsJudged model c.args.bytes.now)
    (λ v h. h c.args.bytes.now (c.read_files_are_declared.ensures c.args.bytes.now c.in-Ok.file c.in-Ok.ensures)) c.judge_file.ensures

pub returns-in-Err-Fault : goal.returns-in-Err-Fault
returns-in-Err-Fault c =
    let model = model_of c.args.model in
    let fault = c.in-Err-Fault.fault in
    in_ok c.unread.result (Refuses (record { line = fault.line; column = fault.column }) (fault_words fault.kind)) (IsJudged model c.args.bytes.now)
    (λ v h. unread_judged model c.args.bytes.now fault (rw c.in-Err-Fault.field-0-is at c.in-Err-Fault.ensures) v h)
    (rw c.in-Err-Fault.field-0-is at c.unread.ensures)

pub returns-in-Err-Memory : goal.returns-in-Err-Memory
returns-in-Err-Memory c = tt
