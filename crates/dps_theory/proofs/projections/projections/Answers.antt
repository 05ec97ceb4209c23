use Rattle.std.proofs.Common.{arith, ◌∙◌}
use Rattle.dps_theory.specs.Projections.{projections_of}
use Rattle.dps_theory.proofs.Projecting.{lists_next, lists_all}
use Rattle.dps_theory.proofs.projections.projections.Goals as goal

pub loop-length-preserved : goal.loop-length-preserved
loop-length-preserved c =
    lists_next (projections_of c.args.signature.now) c.loop-length.rules.items c.push_projections.new.rules.items c.loop-length.length c.loop-length.auto.length
    c.loop-length.invariant c.in_ok-push_projections.ensures

pub returns : goal.returns
returns c = c.loop-length.invariant ∙ lists_all (projections_of c.args.signature.now) c.loop-length.length (let e = c.loop-length.auto.length-end in omega arith)
