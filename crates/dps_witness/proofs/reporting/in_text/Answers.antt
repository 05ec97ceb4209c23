use Rattle.std.proofs.Common.{◌+◌, refl, subst}
use Rattle.dps_signature.specs.Signature.{Signature}
use Rattle.dps_witness.specs.Reading.{IsRead, HasFault}
use Rattle.dps_witness.proofs.Witnesses.{looked_at, wrong_line}
use Rattle.dps_witness.proofs.reporting.in_text.Goals as goal

pub returns-in-Err-Fault : goal.returns-in-Err-Fault
returns-in-Err-Fault c =
    let found = rw c.in-Err-Fault.field-0-is at c.in-Err-Fault.ensures.fault in
    let fault = subst (λ (S : Signature). HasFault S c.args.option c.args.text.now c.in-Err-Fault.line c.in-Err-Fault.kind) c.signature.ensures.signature found in
    wrong_line c.args.problem.now c.args.option c.args.word c.args.text.now c.args.before c.in-Err-Fault.line (c.args.before + c.in-Err-Fault.line) c.in-Err-Fault.kind
    c.refused.result fault refl c.refused.ensures

pub returns-in-Ok : goal.returns-in-Ok
returns-in-Ok c =
    let read = subst (λ (S : Signature). IsRead S c.args.option c.args.text.now c.in-Ok.read.trace c.in-Ok.read.model) c.signature.ensures.signature c.in-Ok.ensures.read in
    looked_at c.args.problem.now c.args.option c.args.word c.args.text.now c.args.before c.in-Ok.read.trace c.in-Ok.read.model c.look.result read c.look.ensures
