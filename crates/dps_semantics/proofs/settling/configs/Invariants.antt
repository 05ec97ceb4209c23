use Rattle.std.proofs.Common.{take}
use Rattle.dps_semantics.specs.Configs.{AreConfigsOf}
use Rattle.dps_semantics.proofs.settling.configs.Given as goal

abbrev pub invariant-loop-index : goal.invariant-loop-index
invariant-loop-index l = AreConfigsOf l.parts (take l.index l.bags) l.frame l.configs.items
