use Rattle.dps_terms.specs.Tree.{node_count}
use Rattle.dps_terms.specs.Seen.{seen}
use Rattle.dps_static.proofs.Taking.{built_or_not}
use Rattle.dps_static.proofs.build.put_way.Goals as goal

pub returns-in_ok-found-in-None : goal.returns-in_ok-found-in-None
returns-in_ok-found-in-None c =
    built_or_not c.args.kept.now (seen c.args.tree) (node_count (seen c.args.tree)) c.args.steps.now.items c.put_composed.new.steps.items c.args.stack.now c.put_composed.new.stack
    c.in_ok-found-in-None.found c.in-None.ensures.first (c.in_ok-found-in-None.ensures c.args.kept.now)
