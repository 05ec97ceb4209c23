use Rattle.dps_terms.specs.Seen.{seen}
use Rattle.dps_terms.specs.Walk.{subterms_from}
use Rattle.std.proofs.Common.{◌+◌, rules}
use Rattle.dps_static.proofs.Numbers.{adds_next}
use Rattle.dps_static.proofs.naming.add_numbers.Goals as goal

pub loop-node-preserved : goal.loop-node-preserved
loop-node-preserved c =
    adds_next c.args.numbers.now c.loop-node.numbers c.add_root.new.numbers (seen c.args.tree) (seen c.subterm.result) (subterms_from (seen c.args.tree) c.loop-node.node)
    (subterms_from (seen c.args.tree) (c.loop-node.node + 1)) c.subterm.ensures.first c.subterm.ensures.below c.loop-node.invariant (search rules)
