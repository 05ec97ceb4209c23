use Rattle.dps_lex.specs.declared.vocabulary.Place.{Place}
use Rattle.dps_meaning.specs.Causes.{cause_of, cause_text}
use Rattle.dps_judge.specs.Judgement.{JudgesTheory, RefusesTheory}
use Rattle.dps_judge.proofs.Answering.{in_ok, faulty_theory, means_theory}
use Rattle.dps_judge.proofs.theory.judge_rules.Goals as goal

pub check_theory-requires : goal.check_theory-requires
check_theory-requires c = c.requires

pub rule_count-rules-requires : goal.rule_count-rules-requires
rule_count-rules-requires c = c.in-Ok.ensures.checked.few

pub returns-in-Ok : goal.returns-in-Ok
returns-in-Ok c = means_theory c.args.file.now.declarations.items c.in-Ok.checked c.in-Ok.ensures.checked c.rule_count-rules.result c.rule_count-rules.ensures

pub returns-in-Err-Fault : goal.returns-in-Err-Fault
returns-in-Err-Fault c =
    let decls = c.args.file.now.declarations.items in
    let place : Place = record { line = c.in-Err-Fault.line; column = c.in-Err-Fault.column } in
    let cause = cause_of c.in-Err-Fault.cause in
    in_ok c.faulty.result (RefusesTheory place (cause_text cause)) (JudgesTheory decls)
    (λ v h. faulty_theory decls place cause (rw c.in-Err-Fault.field-0-is at c.in-Err-Fault.ensures.refused) v h) c.faulty.ensures

pub returns-in-Err-Memory : goal.returns-in-Err-Memory
returns-in-Err-Memory c = tt
