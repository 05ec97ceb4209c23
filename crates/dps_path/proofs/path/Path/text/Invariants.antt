use Rattle.std.proofs.Common.{◌≡◌, ◌++◌, drop, string_bytes}
use Rattle.dps_path.specs.Text.{parts_text, path_text}
use Rattle.dps_path.proofs.path.Path.text.Given as goal

abbrev pub invariant-loop-number : goal.invariant-loop-number
invariant-loop-number l = string_bytes l.text ++ parts_text (drop l.number-index l.number-items) ≡ path_text l.fn.self
