use Rattle.std.proofs.Common.{◌≡◌, IsTrue, ap, sym, subst, ◌∙◌}
use Rattle.std.specs.Prelude.{◌↔◌}
use Rattle.dps_terms.specs.Seen.{seen}
use Rattle.dps_process.specs.Steps.{Label, inputs}
use Rattle.dps_process.specs.Labels.{label_of}
use Rattle.dps_trace.specs.Written.{IsInTurn}
use Rattle.dps_trace.proofs.turn.is_in_turn.Goals as goal

pub returns-in-In : goal.returns-in-In
returns-in-In c =
    let same : inputs c.in-In.field-0 (seen c.whole.result) ≡ label_of c.args.label.now = ap (inputs c.in-In.field-0) c.whole.ensures ∙ sym (ap label_of c.in-In.is) in
    let P : Label → Type 0 = λ l. IsTrue c.has_handles_up_to.result ↔ IsInTurn c.args.outputs l in
    subst P same c.has_handles_up_to.ensures
