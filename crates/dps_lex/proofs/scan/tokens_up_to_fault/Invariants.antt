use Rattle.std.proofs.Common.{length, ◌-◌}
use Rattle.dps_lex.specs.Scanning.{IsPosition}
use Rattle.dps_lex.proofs.Scans.{IsScanned}
use Rattle.dps_lex.proofs.scan.tokens_up_to_fault.Given as goal

abbrev pub invariant-scan : goal.invariant-scan
invariant-scan l = record {
  position : IsPosition l.bytes l.here;
  scanned : IsScanned l.bytes l.here.at l.tokens.items;
}

abbrev pub decreases-scan : goal.decreases-scan
decreases-scan l = length l.bytes - l.here.at
