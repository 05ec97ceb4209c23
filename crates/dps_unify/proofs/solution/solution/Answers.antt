use Rattle.dps_terms.specs.Replace.{substitute}
use Rattle.dps_terms.specs.Seen.{seen}
use Rattle.dps_unify.specs.Chain.{solved}
use Rattle.dps_unify.proofs.Solving.{solution_next, later_is_free_in}
use Rattle.dps_unify.proofs.solution.solution.Goals as goal

pub bind-requires : goal.bind-requires
bind-requires c =
    later_is_free_in (substitute (solved c.args.bindings.now)) c.args.bindings.now c.loop-index.index c.entry-variable.result.0 (seen c.entry-variable.result.1) c.loop-index.solution
    c.len-index-end.ensures.distinct c.entry-variable.ensures c.loop-index.invariant

pub loop-index-preserved : goal.loop-index-preserved
loop-index-preserved c =
    solution_next (substitute (solved c.args.bindings.now)) c.args.bindings.now c.loop-index.index c.entry-variable.result.0
    (seen c.entry-variable.result.1) c.in_ok-solved.solved c.loop-index.solution c.bind.new.self
    c.entry-variable.ensures c.loop-index.invariant c.in_ok-solved.ensures c.in_ok-bind.ensures.ok
