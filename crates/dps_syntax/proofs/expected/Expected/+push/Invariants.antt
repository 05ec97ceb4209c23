use Rattle.std.proofs.Common.{length}
use Rattle.dps_syntax.proofs.expected.Expected.+push.Given as goal

abbrev pub decreases-push : goal.decreases-push
decreases-push l = length l.symbols.now
