use Rattle.std.proofs.Common.{◌≡◌, take}
use Rattle.dps_syntax.specs.Files.{words_at}
use Rattle.dps_syntax.proofs.leaf.words_of.Given as goal

abbrev pub invariant-loop-token : goal.invariant-loop-token
invariant-loop-token l = l.words.items ≡ words_at l.bytes (take l.token-index l.tokens)
