use Rattle.std.proofs.Common.{ap, ◌∙◌}
use Rattle.dps_terms.specs.Bindings.{bound}
use Rattle.dps_terms.proofs.Bound.{unbound_before, copied_more}
use Rattle.dps_bindings.proofs.bindings.substitution.Goals as goal

pub bind-requires : goal.bind-requires
bind-requires c =
    ap (λ s. bound s c.pair-variable.result.0) c.loop-index.invariant
    ∙ unbound_before c.args.bindings.now c.loop-index.index (c.pair-variable.result.0, c.pair-variable.result.1.now) c.len-index-end.ensures.distinct c.pair-variable.ensures

pub loop-index-preserved : goal.loop-index-preserved
loop-index-preserved c =
    copied_more c.args.bindings.now c.loop-index.copies c.bind.new.self c.loop-index.index c.pair-variable.result.0 c.pair-variable.result.1.now
    c.in_ok-copy.copy c.loop-index.invariant c.pair-variable.ensures c.in_ok-copy.ensures.same c.in_ok-bind.ensures.ok
