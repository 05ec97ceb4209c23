use Rattle.dps_meaning.proofs.Answering.{checkable}
use Rattle.dps_meaning.proofs.tests.rule_count.Goals as goal

pub theory_of-requires : goal.theory_of-requires
theory_of-requires c =
    checkable c.rules_are_checkable.ensures c.args.file.now.declarations.items c.args.program.now c.requires.read c.requires.named
