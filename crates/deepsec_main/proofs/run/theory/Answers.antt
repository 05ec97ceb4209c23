use Rattle.std.proofs.Common.{subst}
use Rattle.dps_judge.specs.declared.verdict.TheoryVerdict.{TheoryVerdict}
use Rattle.dps_judge.specs.Judgement.{IsTheoryJudged}
use Rattle.dps_words.specs.declared.command.Command.TheVariants.{Theory}
use Rattle.dps_words.specs.Words.{texts}
use Rattle.deepsec_main.specs.Answers.{IsRead, alone}
use Rattle.deepsec_main.proofs.Reading.{unread_caused, file_without_memory, theory_refused}
use Rattle.deepsec_main.proofs.run.theory.Goals as goal

pub returns-in-Err-clause-caused : goal.returns-in-Err-clause-caused
returns-in-Err-clause-caused g c =
    unread_caused (g.F.Files.state c.args.files.now) (g.F.Files.state c.file_bytes.new.files) (texts c.args.words.now) c.args.file c.in-Err.outcome (alone Theory tt c.requires)
    c.in-Err.ensures.unread

pub returns-in-Err-judge_theory-clause-caused : goal.returns-in-Err-judge_theory-clause-caused
returns-in-Err-judge_theory-clause-caused g c =
    file_without_memory (g.F.Files.state c.args.files.now) (g.F.Files.state c.file_bytes.new.files) (texts c.args.words.now) c.args.file c.in-Ok.bytes.items c.in-Ok.ensures.read
    (alone Theory tt c.requires)

pub returns-clause-caused : goal.returns-clause-caused
returns-clause-caused g c =
    let words = texts c.args.words.now in
    let old = g.F.Files.state c.args.files.now in
    let new = g.F.Files.state c.file_bytes.new.files in
    let text = c.deref.result.now in
    let read : IsRead old new words c.args.file text = rw c.deref.ensures.value c.in-Ok.ensures.read in
    let means = subst (λ (v : TheoryVerdict). IsTheoryJudged text v) c.in-Ok-Refused.field-0-is c.in-Ok-Refused.ensures in
    theory_refused old new words c.args.file text read c.in-Ok-Refused.place c.in-Ok-Refused.cause c.refused.result c.refused.ensures c.requires means
