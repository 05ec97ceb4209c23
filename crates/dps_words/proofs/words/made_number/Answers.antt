use Rattle.std.proofs.Common.{◌≢◌, ℕ, string_bytes, arith}
use Rattle.std.specs.Fmt.{decimal}
use borrow.Author.Count.{below_more}
use Rattle.dps_words.proofs.words.made_number.Goals as goal

pub loop-number-preserved : goal.loop-number-preserved
loop-number-preserved c = below_more (λ (n : ℕ). string_bytes c.args.word.now ≢ decimal n) c.loop-number.number c.loop-number.invariant c.if-is_number.ensures

pub returns : goal.returns
returns c = λ n h. c.loop-number.invariant n (omega (arith, h))
