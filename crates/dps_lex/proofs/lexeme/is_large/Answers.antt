use Rattle.std.proofs.Common.{arith, ◌+◌, ◌*◌}
use Rattle.dps_lex.proofs.Values.{next_value, above_by_front}
use Rattle.dps_lex.proofs.lexeme.is_large.Goals as goal

pub returns-then-value-gt-LARGEST_NUMBER : goal.returns-then-value-gt-LARGEST_NUMBER
returns-then-value-gt-LARGEST_NUMBER c =
    let digits = c.args.digits.now in
    let i = c.loop-byte.byte-index in
    let next = next_value digits i c.loop-byte.value c.from.result c.requires (omega arith) c.loop-byte.invariant.value c.from.ensures in
    above_by_front digits (i + 1) (c.loop-byte.value * 10 + c.from.result) next c.if-value-gt-LARGEST_NUMBER.true
