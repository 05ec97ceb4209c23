use Rattle.std.proofs.Common.{None, Some, refl}
use Rattle.dps_lex.specs.declared.vocabulary.Fault.{Fault}
use Rattle.dps_lex.proofs.Scans.{scanned_fault, scanned_end}
use Rattle.dps_lex.proofs.Spans.{spans}
use Rattle.dps_lex.proofs.scan.tokens_up_to_fault.Goals as goal

pub returns-in-Stop : goal.returns-in-Stop
returns-in-Stop c =
    let bytes = c.args.bytes.now in
    let here = c.scan.here in
    let tokens = c.scan.tokens.items in
    let one : Fault = record { line = here.line; column = c.column.result; kind = c.in-Stop.kind } in
    let reading = scanned_fault bytes here c.in-Stop.kind one tokens c.scan.invariant.position c.in-Stop.ensures refl refl c.column.ensures c.scan.invariant.scanned in
    let law = spans bytes tokens (Some one) reading in
    record { reading = reading; in_order = law.0; spelled = law.1 }

pub returns : goal.returns
returns c =
    let bytes = c.args.bytes.now in
    let tokens = c.scan.tokens.items in
    let reading = scanned_end bytes c.scan.here.at tokens c.scan-test.false c.scan.invariant.scanned in
    let law = spans bytes tokens None reading in
    record { reading = reading; in_order = law.0; spelled = law.1 }
