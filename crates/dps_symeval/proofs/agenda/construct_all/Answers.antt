use Rattle.std.proofs.Common.{◌+◌, arith}
use Rattle.dps_symeval.specs.Agenda.{constructed_last}
use Rattle.dps_symeval.proofs.Mapping.{mapped_next}
use Rattle.dps_symeval.proofs.agenda.construct_all.Goals as goal

pub loop-choice-preserved : goal.loop-choice-preserved
loop-choice-preserved c =
    mapped_next (constructed_last c.args.sym c.args.arity) c.args.choices.now c.loop-choice.choices c.loop-choice.choice-index
    (c.loop-choice.choice-index + 1) c.construct.new.self c.choice-item.result
    c.loop-choice.invariant c.loop-choice-test.true c.in_ok-construct.ensures (omega arith)
