use Rattle.std.proofs.Common.{arith}
use Rattle.dps_words.proofs.Replaying.{option_alone, unnamed_model}
use Rattle.dps_words.proofs.words.option_word.Goals as goal

pub returns-in-len2 : goal.returns-in-len2
returns-in-len2 c = option_alone c.args.words.now (omega arith) c.requires

pub returns-in-None : goal.returns-in-None
returns-in-None c = unnamed_model c.args.words.now c.name-item.result c.in-len3-up.len_at_least c.requires c.name-item.is c.in-None.ensures
