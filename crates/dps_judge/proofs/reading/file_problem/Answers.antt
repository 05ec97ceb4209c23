use Rattle.dps_process.specs.Models.{model_of}
use Rattle.dps_lex.specs.declared.vocabulary.Place.{Place}
use Rattle.dps_meaning.specs.Causes.{cause_of, cause_text}
use Rattle.dps_judge.specs.Reading.{IsMeaningOf, RefusesMeaning}
use Rattle.dps_judge.proofs.Answering.{in_ok}
use Rattle.dps_judge.proofs.Meanings.{faulty_meaning, found_meaning}
use Rattle.dps_judge.proofs.reading.file_problem.Goals as goal

pub problem-requires : goal.problem-requires
problem-requires c = c.requires

pub returns-in-Ok : goal.returns-in-Ok
returns-in-Ok c = found_meaning (model_of c.args.model) c.args.file.now.declarations.items c.in-Ok.problem c.in-Ok.ensures.means c.in-Ok.ensures.model

pub returns-in-Err-Fault : goal.returns-in-Err-Fault
returns-in-Err-Fault c =
    let decls = c.args.file.now.declarations.items in
    let model = model_of c.args.model in
    let place : Place = record { line = c.in-Err-Fault.line; column = c.in-Err-Fault.column } in
    let cause = cause_of c.in-Err-Fault.cause in
    in_ok c.faulty.result (RefusesMeaning place (cause_text cause)) (IsMeaningOf model decls)
    (λ m h. faulty_meaning model decls place cause (rw c.in-Err-Fault.field-0-is at c.in-Err-Fault.ensures.refused) m h) c.faulty.ensures

pub returns-in-Err-Memory : goal.returns-in-Err-Memory
returns-in-Err-Memory c = tt
