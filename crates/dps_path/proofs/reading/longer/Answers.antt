use Rattle.std.proofs.Common.{◌≡◌, ◌∙◌, ◌+◌, ◌*◌, ap, sym, arith}
use Rattle.dps_path.proofs.Scans.{longer-low, longer-high, longer-large, longer-more}
use Rattle.dps_path.proofs.reading.longer.Goals as goal

pub returns-then-byte-lt48 : goal.returns-then-byte-lt48
returns-then-byte-lt48 c = longer-low c.args.number c.args.byte c.if-byte-lt48.true

pub returns-then-byte-gt57 : goal.returns-then-byte-gt57
returns-then-byte-gt57 c = longer-high c.args.number c.args.byte c.if-byte-gt57.true

pub returns-then-next-from : goal.returns-then-next-from
returns-then-next-from c = longer-large c.args.number c.args.byte (omega (arith, c.from.ensures, c.from-2.ensures, c.from-3.ensures, c.if-next-from.true))

pub returns : goal.returns
returns c = longer-more c.args.number c.args.byte (c.from.result * 10 + c.from-2.result) (omega arith) (omega arith) (omega (arith, c.from.ensures, c.from-2.ensures, c.from-3.ensures))
    (omega (arith, c.from.ensures, c.from-2.ensures, c.from-3.ensures))
