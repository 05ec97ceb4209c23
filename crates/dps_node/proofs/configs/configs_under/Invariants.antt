use Rattle.std.proofs.Common.{map, take}
use Rattle.std.specs.List.{AllZip}
use Rattle.dps_terms.specs.Bindings.{image}
use Rattle.dps_node.specs.Node.{Node}
use Rattle.dps_node.specs.Splits.{IsConfigUnder}
use Rattle.dps_node.specs.Code.{config_of}
use Rattle.dps_node.proofs.configs.configs_under.Given as goal

abbrev pub invariant-loop-config : goal.invariant-loop-config
invariant-loop-config l =
    (node : Node) → AllZip (IsConfigUnder node (image l.renewal.by)) (map config_of (take l.config-index l.configs)) (map config_of l.made.items)
