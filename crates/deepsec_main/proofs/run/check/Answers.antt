use Rattle.std.proofs.Common.{subst, string_bytes}
use Rattle.dps_judge.specs.declared.verdict.Verdict.{Verdict}
use Rattle.dps_judge.specs.Judgement.{IsJudged}
use Rattle.dps_words.specs.declared.command.Command.TheVariants.{Check}
use Rattle.dps_words.specs.Words.{texts, plan_model}
use Rattle.deepsec_main.specs.Answers.{IsRead, alone}
use Rattle.deepsec_main.proofs.Reading.{unread_caused, file_without_memory, check_refused, check_attacked}
use Rattle.deepsec_main.proofs.run.check.Goals as goal

pub returns-in-Err-clause-caused : goal.returns-in-Err-clause-caused
returns-in-Err-clause-caused g c =
    unread_caused (g.F.Files.state c.args.files.now) (g.F.Files.state c.file_bytes.new.files) (texts c.args.words.now) c.args.file c.in-Err.outcome (alone Check tt c.requires)
    c.in-Err.ensures.unread

pub returns-in-Err-judge-clause-caused : goal.returns-in-Err-judge-clause-caused
returns-in-Err-judge-clause-caused g c =
    file_without_memory (g.F.Files.state c.args.files.now) (g.F.Files.state c.file_bytes.new.files) (texts c.args.words.now) c.args.file c.in-Ok.bytes.items c.in-Ok.ensures.read
    (alone Check tt c.requires)

pub returns-in-Ok-NotEquivalent-clause-caused : goal.returns-in-Ok-NotEquivalent-clause-caused
returns-in-Ok-NotEquivalent-clause-caused g c =
    let words = texts c.args.words.now in
    let old = g.F.Files.state c.args.files.now in
    let new = g.F.Files.state c.file_bytes.new.files in
    let text = c.deref.result.now in
    let read : IsRead old new words c.args.file text = rw c.deref.ensures.value c.in-Ok.ensures.read in
    let means = subst (λ (v : Verdict). IsJudged (plan_model words) text v) c.in-Ok-NotEquivalent.field-0-is c.in-Ok-NotEquivalent.ensures in
    check_attacked old new words c.args.file text read (string_bytes c.in-Ok-NotEquivalent.trace) c.attack.result c.attack.ensures c.requires means

pub returns-clause-caused : goal.returns-clause-caused
returns-clause-caused g c =
    let words = texts c.args.words.now in
    let old = g.F.Files.state c.args.files.now in
    let new = g.F.Files.state c.file_bytes.new.files in
    let text = c.deref.result.now in
    let read : IsRead old new words c.args.file text = rw c.deref.ensures.value c.in-Ok.ensures.read in
    let means = subst (λ (v : Verdict). IsJudged (plan_model words) text v) c.in-Ok-Refused.field-0-is c.in-Ok-Refused.ensures in
    check_refused old new words c.args.file text read c.in-Ok-Refused.place c.in-Ok-Refused.cause c.refused.result c.refused.ensures c.requires means
