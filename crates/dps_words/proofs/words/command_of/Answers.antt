use Rattle.std.proofs.Common.{arith}
use Rattle.dps_words.proofs.Planning.{no_words, wrong_command}
use Rattle.dps_words.proofs.words.command_of.Goals as goal

pub returns-in-empty : goal.returns-in-empty
returns-in-empty c = no_words c.args.words.now (omega arith)

pub returns-else-is_gen : goal.returns-else-is_gen
returns-else-is_gen c =
    wrong_command c.args.words.now c.word-item.result c.in-len1-up.len_at_least c.word-item.is c.if-is_check.ensures c.if-is_replay.ensures c.if-is_theory.ensures c.if-is_gen.ensures
