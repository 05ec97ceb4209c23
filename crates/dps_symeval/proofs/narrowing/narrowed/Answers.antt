use Rattle.std.proofs.Common.{◌+◌, arith}
use Rattle.dps_symeval.specs.Agenda.{narrowed_last}
use Rattle.dps_symeval.proofs.Reducing.{none_open, adds_more}
use Rattle.dps_symeval.proofs.narrowing.narrowed.Goals as goal

pub loop-choice-preserved : goal.loop-choice-preserved
loop-choice-preserved c =
    adds_more (narrowed_last c.args.theory.now c.args.sym c.args.arity) c.args.choices.now c.loop-choice.choice-index (c.loop-choice.choice-index + 1) c.choice-item.result c.loop-choice.found.items
    c.narrow.new.found.items c.loop-choice-test.true (omega arith) c.choice-item.is c.loop-choice.invariant c.in_ok-narrow.ensures

pub loop-choice-init : goal.loop-choice-init
loop-choice-init c = rw c.new-found.ensures.items none_open
