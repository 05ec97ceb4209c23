use Rattle.std.proofs.Common.{length}
use Rattle.dps_syntax.proofs.grammar.+chosen_of.Given as goal

abbrev pub decreases-chosen_of : goal.decreases-chosen_of
decreases-chosen_of l = length l.alternatives.now
