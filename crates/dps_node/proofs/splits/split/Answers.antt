use Rattle.dps_terms.specs.Bindings.{image}
use Rattle.dps_node.specs.Code.{node_of}
use Rattle.dps_node.proofs.Renewed.{older_put, apart_put}
use Rattle.dps_node.proofs.splits.split.Goals as goal

pub applied-requires-clause-older : goal.applied-requires-clause-older
applied-requires-clause-older c = older_put (node_of c.args.node) (image c.args.bindings.now) c.in_ok-renewal.renewal c.requires c.in_ok-renewal.ensures

pub applied-requires-clause-apart : goal.applied-requires-clause-apart
applied-requires-clause-apart c = apart_put (node_of c.args.node) (image c.args.bindings.now) c.in_ok-renewal.renewal c.requires c.in_ok-renewal.ensures
