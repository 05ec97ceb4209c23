use Rattle.std.proofs.Common.{◌≡◌}
use Rattle.std.specs.Prelude.{replicate, None}
use Rattle.dps_book.proofs.book.Book.new.Given as goal

abbrev pub invariant-loop : goal.invariant-loop
invariant-loop l = record {
  holds : l.holds.items ≡ replicate l.counter None;
  claims : l.claims.items ≡ replicate l.counter 0;
}
