use Rattle.std.proofs.Common.{arith}
use Rattle.dps_words.proofs.Planning.{no_number, unmade, number_surplus}
use Rattle.dps_words.proofs.words.gen_word.Goals as goal

pub returns-in-len1 : goal.returns-in-len1
returns-in-len1 c = no_number c.args.words.now (omega arith) c.requires

pub returns-in-None : goal.returns-in-None
returns-in-None c = unmade c.args.words.now c.word-item.result (omega arith) c.requires c.word-item.is c.in-None.ensures

pub returns-in-Some-made_number : goal.returns-in-Some-made_number
returns-in-Some-made_number c =
    number_surplus c.args.words.now c.word-item-2.result c.in-Some-made_number.field-0 c.in-len3-up.len_at_least c.requires c.word-item-2.is c.in-Some-made_number.ensures

pub returns-in-None-made_number : goal.returns-in-None-made_number
returns-in-None-made_number c = unmade c.args.words.now c.word-item-2.result (omega (arith, c.in-len3-up.len_at_least)) c.requires c.word-item-2.is c.in-None-made_number.ensures
