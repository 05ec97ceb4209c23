use Rattle.dps_lex.specs.Spelling.{fault_words}
use Rattle.dps_process.specs.Models.{model_of}
use Rattle.dps_judge.specs.Reading.{IsMeaning, IsMeaningOf, RefusesMeaning}
use Rattle.dps_judge.proofs.Answering.{of_text, in_ok, fault_place}
use Rattle.dps_judge.proofs.Meanings.{unread_meaning}
use Rattle.dps_judge.proofs.reading.read_problem.Goals as goal

pub read_file-requires : goal.read_file-requires
read_file-requires c = c.requires

pub file_problem-requires : goal.file_problem-requires
file_problem-requires c = of_text c.read_files_are_declared.ensures c.args.bytes.now c.in-Ok.file c.requires c.in-Ok.ensures

pub returns-in-Ok : goal.returns-in-Ok
returns-in-Ok c =
    let model = model_of c.args.model in
    in_ok c.file_problem.result (IsMeaningOf model c.in-Ok.file.declarations.items) (IsMeaning model c.args.bytes.now)
    (λ m h. h c.args.bytes.now (c.read_files_are_declared.ensures c.args.bytes.now c.in-Ok.file c.in-Ok.ensures)) c.file_problem.ensures

pub returns-in-Err-Fault : goal.returns-in-Err-Fault
returns-in-Err-Fault c =
    let model = model_of c.args.model in
    let fault = c.in-Err-Fault.fault in
    in_ok c.unread.result (RefusesMeaning (fault_place fault) (fault_words fault.kind)) (IsMeaning model c.args.bytes.now)
    (λ m h. unread_meaning model c.args.bytes.now fault (rw c.in-Err-Fault.field-0-is at c.in-Err-Fault.ensures) m h)
    (rw c.in-Err-Fault.field-0-is at c.unread.ensures)

pub returns-in-Err-Memory : goal.returns-in-Err-Memory
returns-in-Err-Memory c = tt
