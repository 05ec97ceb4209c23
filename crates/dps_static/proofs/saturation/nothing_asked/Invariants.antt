use Rattle.std.proofs.Common.{◌≡◌, length}
use Rattle.std.specs.Prelude.{All}
use Rattle.dps_static.specs.Asking.{IsUnasked}
use Rattle.dps_static.proofs.saturation.nothing_asked.Given as goal

abbrev pub invariant-loop : goal.invariant-loop
invariant-loop l = record {
  counted : length l.all.items ≡ l.counter;
  unasked : All IsUnasked l.all.items;
}
