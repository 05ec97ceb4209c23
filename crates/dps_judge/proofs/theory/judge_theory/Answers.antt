use Rattle.dps_lex.specs.Spelling.{fault_words}
use Rattle.dps_judge.specs.Judgement.{IsTheoryJudged, JudgesTheory, RefusesTheory}
use Rattle.dps_judge.proofs.Answering.{of_text, in_ok, fault_place, unread_theory}
use Rattle.dps_judge.proofs.theory.judge_theory.Goals as goal

pub read_file-requires : goal.read_file-requires
read_file-requires c = c.requires

pub judge_rules-requires : goal.judge_rules-requires
judge_rules-requires c = of_text c.read_files_are_declared.ensures c.args.bytes.now c.in-Ok.file c.requires c.in-Ok.ensures

pub returns-in-Ok : goal.returns-in-Ok
returns-in-Ok c =
    in_ok c.judge_rules.result (JudgesTheory c.in-Ok.file.declarations.items) (IsTheoryJudged c.args.bytes.now)
    (λ v h. h c.args.bytes.now (c.read_files_are_declared.ensures c.args.bytes.now c.in-Ok.file c.in-Ok.ensures)) c.judge_rules.ensures

pub returns-in-Err-Fault : goal.returns-in-Err-Fault
returns-in-Err-Fault c =
    let fault = c.in-Err-Fault.fault in
    in_ok c.unread.result (RefusesTheory (fault_place fault) (fault_words fault.kind)) (IsTheoryJudged c.args.bytes.now)
    (λ v h. unread_theory c.args.bytes.now fault (rw c.in-Err-Fault.field-0-is at c.in-Err-Fault.ensures) v h) c.unread.ensures

pub returns-in-Err-Memory : goal.returns-in-Err-Memory
returns-in-Err-Memory c = tt
