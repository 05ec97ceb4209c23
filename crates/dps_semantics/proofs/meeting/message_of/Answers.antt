use Rattle.std.proofs.Common.{sym, subst}
use Rattle.dps_theory.specs.Theory.{IsAccepted, HasPlainRules}
use Rattle.dps_semantics.proofs.Closing.{closed_some}
use Rattle.dps_semantics.proofs.meeting.message_of.Goals as goal

pub returns-in_ok-then-in-Some-clause-closed : goal.returns-in_ok-then-in-Some-clause-closed
returns-in_ok-then-in-Some-clause-closed c =
    let accepted = subst IsAccepted (sym c.theory-theory.ensures.theory) c.theory-theory.ensures.lawful.theory.accepted in
    let plain = subst HasPlainRules (sym c.theory-theory.ensures.theory) c.theory-theory.ensures.lawful.theory.rules_plain in
    closed_some c.theory-theory.result.now c.in-Output.term.now c.in-Some.message c.in_ok-message.field-0 accepted plain c.in_ok-message.ensures c.in-Some.is
