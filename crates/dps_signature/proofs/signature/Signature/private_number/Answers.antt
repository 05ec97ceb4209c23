use Rattle.std.proofs.Common.{sym, ap, arith}
use Rattle.dps_signature.specs.Signature.{private_number}
use Rattle.dps_signature.proofs.Counting.{before_at}
use Rattle.dps_signature.proofs.signature.Signature.private_number.Goals as goal

pub returns : goal.returns
returns c =
    let counted = before_at 0 c.self.inside.names.entries c.args.number (c.in-Some.field-0-0.now, c.in-Some.shape.now) c.self.invariant.2.0 (sym c.in-Some.ensures.entry) in
    omega (arith, counted, ap (λ s. private_number s c.args.number) c.self.view_is)
