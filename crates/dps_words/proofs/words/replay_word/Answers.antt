use Rattle.std.proofs.Common.{arith}
use Rattle.dps_words.proofs.Replaying.{no_replay_file, replay_option, no_trace_word, replay_asks, replay_surplus}
use Rattle.dps_words.proofs.words.replay_word.Goals as goal

pub returns-in-len1 : goal.returns-in-len1
returns-in-len1 c = no_replay_file c.args.words.now (omega arith) c.requires

pub returns-in-len2-up-2 : goal.returns-in-len2-up-2
returns-in-len2-up-2 c =
    replay_option c.args.words.now c.file-item.result c.option-item.result c.in-len2-up-2.len_at_least c.requires c.file-item.is c.option-item.is c.if-is_semantics.ensures
    c.if-is_option.ensures

pub returns-in-len2 : goal.returns-in-len2
returns-in-len2 c =
    no_trace_word c.args.words.now c.file-item.result c.option-item.result (omega arith) c.requires c.file-item.is c.option-item.is c.if-is_semantics.ensures c.if-is_option.ensures

pub returns-in-len3 : goal.returns-in-len3
returns-in-len3 c = rw c.replay_with.ensures (replay_asks c.args.words.now c.file-item.result (omega arith) c.requires c.file-item.is c.if-is_option.ensures)

pub returns-in-len4-up : goal.returns-in-len4-up
returns-in-len4-up c =
    replay_surplus c.args.words.now c.file-item.result c.option-item.result c.in-len4-up.len_at_least c.requires c.file-item.is c.option-item.is c.if-is_semantics.ensures
    c.if-is_option.ensures
