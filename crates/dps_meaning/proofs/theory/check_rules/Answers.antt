use Rattle.dps_meaning.proofs.Answering.{checkable, few_rules, rules_refused}
use Rattle.dps_meaning.proofs.theory.check_rules.Goals as goal

pub theory_of-requires : goal.theory_of-requires
theory_of-requires c = checkable c.rules_are_checkable.ensures c.args.file.now.declarations.items c.args.program c.requires.read c.requires.named

pub returns-in-Ok-clause-checked : goal.returns-in-Ok-clause-checked
returns-in-Ok-clause-checked c = record {
  named = c.requires.named;
  theory = c.in-Ok.ensures.theory;
  lawful = c.in-Ok.ensures.lawful;
  few = few_rules c.rules_are_checkable.ensures c.args.file.now.declarations.items c.args.program c.requires.read c.requires.named;
}

pub returns-in-Err-clause-refused : goal.returns-in-Err-clause-refused
returns-in-Err-clause-refused c =
    rules_refused c.args.file.now.declarations.items c.args.program c.requires.named c.in-Err.refusal c.of_rules.result c.in-Err.ensures.refused c.of_rules.ensures
