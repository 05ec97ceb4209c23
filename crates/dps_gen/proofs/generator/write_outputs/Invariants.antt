use Rattle.std.proofs.Common.{◌≡◌, ◌++◌, string_bytes}
use Rattle.dps_gen.specs.Generated.{outputs}
use Rattle.dps_gen.proofs.generator.write_outputs.Given as goal

abbrev pub invariant-loop : goal.invariant-loop
invariant-loop l = string_bytes l.text ≡ string_bytes l.initial.text ++ outputs l.counter
