use Rattle.std.proofs.Common.{◌≢◌, ℕ, ◌<◌, string_bytes}
use Rattle.std.specs.Fmt.{decimal}
use Rattle.dps_words.proofs.words.made_number.Given as goal

abbrev pub invariant-loop-number : goal.invariant-loop-number
invariant-loop-number l = (n : ℕ) → n < l.number → string_bytes l.word ≢ decimal n
