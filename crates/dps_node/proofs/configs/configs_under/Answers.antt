use Rattle.dps_terms.specs.Bindings.{image}
use Rattle.dps_node.specs.Node.{SymbolicConfig}
use Rattle.dps_node.specs.Splits.{HasOlderEntries, BindsNoneOf, IsConfigUnder}
use Rattle.dps_node.specs.Code.{config_of}
use Rattle.dps_node.proofs.Mapped.{mapped_at, zipped_more}
use Rattle.dps_node.proofs.configs.configs_under.Goals as goal

pub config_under-requires-clause-older : goal.config_under-requires-clause-older
config_under-requires-clause-older c =
    mapped_at (λ (d : SymbolicConfig). HasOlderEntries (image c.args.renewal.now.by) d.values) config_of c.args.configs.now c.loop-config.config-index c.config-item.result c.loop-config-test.true
    c.config-item.is c.requires.older

pub config_under-requires-clause-apart : goal.config_under-requires-clause-apart
config_under-requires-clause-apart c =
    mapped_at (BindsNoneOf (image c.args.renewal.now.by)) config_of c.args.configs.now c.loop-config.config-index c.config-item.result c.loop-config-test.true c.config-item.is c.requires.apart

pub loop-config-preserved : goal.loop-config-preserved
loop-config-preserved c = λ node.
    zipped_more (IsConfigUnder node (image c.args.renewal.now.by)) config_of config_of c.args.configs.now c.loop-config.config-index c.config-item.result c.loop-config.made.items c.push.new.self.items
    c.in_ok-one.one c.loop-config-test.true c.config-item.is c.in_ok-push.ensures.items (c.in_ok-one.ensures node) (c.loop-config.invariant node)
