use Rattle.std.proofs.Common.{◌≡◌, ◌++◌, string_bytes}
use Rattle.dps_gen.specs.Generated.{step_lines}
use Rattle.dps_gen.proofs.generator.write_steps.Given as goal

abbrev pub invariant-loop-last : goal.invariant-loop-last
invariant-loop-last l = string_bytes l.text ≡ string_bytes l.initial.text ++ step_lines l.name l.last
