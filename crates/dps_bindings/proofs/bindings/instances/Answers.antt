use Rattle.dps_terms.specs.Bindings.{image}
use Rattle.dps_terms.specs.Replace.{substitute}
use Rattle.dps_unify.proofs.Solving.{solution_next, later_is_free_in}
use Rattle.dps_bindings.proofs.bindings.instances.Goals as goal

pub bind-requires : goal.bind-requires
bind-requires c =
    later_is_free_in (substitute (image c.args.by.now)) c.args.before.now c.loop-index.index c.pair-variable.result.0 c.pair-variable.result.1.now c.loop-index.after
    c.len-index-end.ensures.distinct c.pair-variable.ensures c.loop-index.invariant

pub loop-index-preserved : goal.loop-index-preserved
loop-index-preserved c =
    solution_next (substitute (image c.args.by.now)) c.args.before.now c.loop-index.index c.pair-variable.result.0 c.pair-variable.result.1.now
    c.in_ok-instance.instance c.loop-index.after c.bind.new.self
    c.pair-variable.ensures c.loop-index.invariant c.in_ok-instance.ensures c.in_ok-bind.ensures.ok
