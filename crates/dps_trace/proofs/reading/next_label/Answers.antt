use Rattle.std.proofs.Common.{sym, ap, ◌∙◌, option_map}
use Rattle.dps_process.specs.Labels.{label_of}
use Rattle.dps_trace.proofs.LinesRead.{no_line, no_label}
use Rattle.dps_trace.proofs.reading.next_label.Goals as goal

pub returns-in_default-clause-fault : goal.returns-in_default-clause-fault
returns-in_default-clause-fault c = no_line c.args.signature.now c.args.line c.args.outputs c.args.rest.now c.in_default.ensures.none

pub returns-in_default-2-clause-fault : goal.returns-in_default-2-clause-fault
returns-in_default-2-clause-fault c =
    no_label c.args.signature.now c.requires c.args.line c.args.outputs c.args.rest.now c.in-Some.text.now c.in-Some.behind.now c.in-Some.ensures.found
    (λ label h e. ap (option_map label_of) (sym c.in_default-2.is) ∙ c.in_ok-label.ensures.only label h e)
