use Rattle.std.proofs.Common.{◌≡◌, ◌++◌, drop, map, string_bytes}
use Rattle.dps_rules.specs.Bindings.{behind_commas}
use Rattle.dps_rules.proofs.bindings.listed_text.Given as goal

abbrev pub invariant-loop-next : goal.invariant-loop-next
invariant-loop-next l =
    string_bytes l.text ++ behind_commas (map string_bytes (drop l.next-index l.rest)) ≡ string_bytes l.initial.text ++ behind_commas (map string_bytes l.rest)
