use Rattle.std.proofs.Common.{List, ℕ, ◌≡◌, ◌≤◌, ◌-◌, ◌+◌, vec_len, IsTrue}
use Rattle.std.specs.Io.KnownBytes.{prepend_known}
use Rattle.dps_io.specs.Counts.{CountsCall}
use Rattle.dps_io.proofs.whole.read_all.Given as goal

abbrev pub invariant-pieces : goal.invariant-pieces
invariant-pieces g l = record {
  opened : IsTrue (g.F.Files.state l.files).is_open;
  bytes : (g.F.Files.state l.fn.files).told l.fn.name ≡ prepend_known l.bytes.items (g.F.Files.state l.files).left;
  taken : (g.F.Files.state l.files).taken ≡ vec_len l.bytes;
  within : vec_len l.bytes ≤ l.limit;
  calls : (g.F.Files.state l.files).calls ≤ (g.F.Files.state l.fn.files).calls + (vec_len l.bytes + 1);
  counted_calls : (g.F.Files.state l.fn.files).calls ≤ (g.F.Files.state l.files).calls;
  opens : CountsCall (g.F.Files.state l.fn.files).opens (g.F.Files.state l.files).opens;
  same_files : (file : List ℕ) → (g.F.Files.state l.files).told file ≡ (g.F.Files.state l.fn.files).told file;
  no_open_fault : (g.F.Files.state l.files).open_faults ≡ (g.F.Files.state l.fn.files).open_faults;
  no_read_fault : (g.F.Files.state l.files).read_faults ≡ (g.F.Files.state l.fn.files).read_faults;
}

abbrev pub decreases-pieces : goal.decreases-pieces
decreases-pieces g l = l.limit + 1 - vec_len l.bytes
