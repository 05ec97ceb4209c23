use Rattle.std.proofs.Common.{subst}
use Rattle.dps_process.specs.Models.{Private}
use Rattle.dps_judge.specs.declared.reading.Meaning.{Meaning}
use Rattle.dps_judge.specs.Reading.{IsMeaning}
use Rattle.dps_words.specs.Words.{texts}
use Rattle.deepsec_main.specs.Answers.{IsRead}
use Rattle.deepsec_main.proofs.Reading.{problem_refused}
use Rattle.deepsec_main.proofs.run.problem_of.Goals as goal

pub returns-clause-stopped : goal.returns-clause-stopped
returns-clause-stopped g c =
    let words = texts c.args.words.now in
    let old = g.F.Files.state c.args.files.now in
    let new = g.F.Files.state c.file_bytes.new.files in
    let text = c.deref.result.now in
    let read : IsRead old new words c.args.file text = rw c.deref.ensures.value c.in-Ok.ensures.read in
    let none = subst (λ (m : Meaning). IsMeaning Private text m) c.in-Ok-Refused.field-0-is c.in-Ok-Refused.ensures in
    problem_refused old new words c.args.file text read c.in-Ok-Refused.place c.in-Ok-Refused.cause c.refused.result c.refused.ensures none
