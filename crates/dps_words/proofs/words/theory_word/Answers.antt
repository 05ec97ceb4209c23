use Rattle.std.proofs.Common.{arith}
use Rattle.std.specs.Prelude.{codes}
use Rattle.dps_words.proofs.Planning.{never_empty, no_theory_file, theory_surplus, asks_for_theory}
use Rattle.dps_words.proofs.words.theory_word.Goals as goal

pub returns-in-empty : goal.returns-in-empty
returns-in-empty c = absurd (never_empty c.args.words.now (codes "theory") (omega arith) c.requires)

pub returns-in-len1 : goal.returns-in-len1
returns-in-len1 c = no_theory_file c.args.words.now (omega arith) c.requires

pub returns-in-len2 : goal.returns-in-len2
returns-in-len2 c = rw c.alone.ensures (asks_for_theory c.args.words.now (omega arith) c.requires)

pub returns-in-len3-up : goal.returns-in-len3-up
returns-in-len3-up c = theory_surplus c.args.words.now c.in-len3-up.len_at_least c.requires
