use Rattle.std.proofs.Common.{◌≡◌, ◌++◌, drop, map, string_bytes}
use Rattle.dps_rules.specs.Naming.{bindings_in}
use Rattle.dps_rules.proofs.bindings.binding_texts.Given as goal

abbrev pub invariant-loop-number : goal.invariant-loop-number
invariant-loop-number l =
    map string_bytes l.texts.items ++ bindings_in l.naming l.unifier (drop l.number-index l.numbers) ≡ bindings_in l.naming l.unifier l.numbers
