use Rattle.std.proofs.Common.{◌+◌, arith}
use Rattle.dps_solver.specs.Code.{disequation_of}
use Rattle.dps_node.specs.Code.{node_of}
use Rattle.dps_node.proofs.Renewed.{exclusion_is}
use Rattle.dps_node.proofs.splits.exclusion_of.Goals as goal

pub returns : goal.returns
returns c = λ b h.
    exclusion_is (node_of c.args.node.now) b c.args.renewal.now
    (disequation_of (record { free = c.in_ok-free.free; pairs = c.in_ok-pairs.pairs })) (c.len.result + 1) c.len-2.result
    c.deref.result.now h
    (omega (arith, c.len.ensures, c.args.node.now.levels.ok)) c.len-2.ensures.len c.deref.ensures.value c.in_ok-free.ensures c.in_ok-pairs.ensures
