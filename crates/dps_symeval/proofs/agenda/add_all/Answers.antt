use Rattle.std.proofs.Common.{◌+◌, arith}
use Rattle.dps_terms.specs.Seen.{seen}
use Rattle.dps_symeval.specs.Cases.{Choices}
use Rattle.dps_symeval.specs.Agenda.{with_result}
use Rattle.dps_symeval.proofs.Mapping.{mapped_next}
use Rattle.dps_symeval.proofs.agenda.add_all.Goals as goal

pub loop-choice-preserved : goal.loop-choice-preserved
loop-choice-preserved c =
    mapped_next (λ (x : Choices). with_result x (seen c.args.term)) c.args.choices.now c.loop-choice.choices
    c.loop-choice.choice-index (c.loop-choice.choice-index + 1) c.add.new.self c.choice-item.result
    c.loop-choice.invariant c.loop-choice-test.true c.in_ok-add.ensures (omega arith)
