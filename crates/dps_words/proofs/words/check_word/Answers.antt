use Rattle.std.proofs.Common.{arith}
use Rattle.std.specs.Prelude.{codes}
use Rattle.dps_words.proofs.Planning.{never_empty, no_file, option_for_file, surplus, asks}
use Rattle.dps_words.proofs.words.check_word.Goals as goal

pub returns-in-empty : goal.returns-in-empty
returns-in-empty c = absurd (never_empty c.args.words.now (codes "check") (omega arith) c.requires)

pub returns-in-len1 : goal.returns-in-len1
returns-in-len1 c = no_file c.args.words.now (omega arith) c.requires

pub returns-in-len2-up : goal.returns-in-len2-up
returns-in-len2-up c = option_for_file c.args.words.now c.checked-item.result c.in-len2-up.len_at_least c.requires c.checked-item.is c.if-is_option.ensures

pub returns-in-len2 : goal.returns-in-len2
returns-in-len2 c = rw c.alone.ensures (asks c.args.words.now c.checked-item.result (omega arith) c.requires c.checked-item.is c.if-is_option.ensures)

pub returns-in-len3-up : goal.returns-in-len3-up
returns-in-len3-up c = surplus c.args.words.now c.checked-item.result c.in-len3-up.len_at_least c.requires c.checked-item.is c.if-is_option.ensures
