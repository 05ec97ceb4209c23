use Rattle.std.proofs.Common.{arith}
use Rattle.dps_words.proofs.Replaying.{model_alone, model_option, model_file, model_asks, model_surplus}
use Rattle.dps_words.proofs.words.named_word.Goals as goal

pub returns-in-len3 : goal.returns-in-len3
returns-in-len3 c = model_alone c.args.model c.args.words.now (omega arith) c.requires

pub returns-in-len4-up : goal.returns-in-len4-up
returns-in-len4-up c = model_option c.args.model c.args.words.now c.file-item.result c.in-len4-up.len_at_least c.requires c.file-item.is c.if-is_option.ensures

pub returns-in-len4 : goal.returns-in-len4
returns-in-len4 c = model_file c.args.model c.args.words.now c.file-item.result (omega arith) c.requires c.file-item.is c.if-is_option.ensures

pub returns-in-len5 : goal.returns-in-len5
returns-in-len5 c = rw c.replay_with.ensures (model_asks c.args.model c.args.words.now c.file-item.result (omega arith) c.requires c.file-item.is c.if-is_option.ensures)

pub returns-in-len6-up : goal.returns-in-len6-up
returns-in-len6-up c = model_surplus c.args.model c.args.words.now c.file-item.result c.in-len6-up.len_at_least c.requires c.file-item.is c.if-is_option.ensures
