use Rattle.dps_static.proofs.Paired.{ArePairsFirst}
use Rattle.dps_static.proofs.pairing.paired.Given as goal

abbrev pub invariant-loop-index : goal.invariant-loop-index
invariant-loop-index l = ArePairsFirst l.recipes l.values l.pairs.items l.index
