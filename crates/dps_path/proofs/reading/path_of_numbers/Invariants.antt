use Rattle.std.proofs.Common.{◌≡◌, [], ◌∷◌, Some, drop}
use Rattle.dps_path.specs.Scanning.{scanned}
use Rattle.dps_path.proofs.reading.path_of_numbers.Given as goal

abbrev pub invariant-loop-byte : goal.invariant-loop-byte
invariant-loop-byte l = scanned [] (Some 0) l.bytes ≡ scanned l.numbers.items (Some l.number) (drop l.byte-index l.bytes)
