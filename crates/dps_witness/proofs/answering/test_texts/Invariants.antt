use Rattle.std.proofs.Common.{◌≡◌, map, take}
use Rattle.dps_witness.specs.Answers.{test_text}
use Rattle.dps_witness.proofs.answering.test_texts.Given as goal

abbrev pub invariant-loop-test : goal.invariant-loop-test
invariant-loop-test l = l.texts ≡ map (test_text l.fn.signature) (take l.test-index l.tests)
