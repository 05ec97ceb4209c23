use Rattle.std.specs.Prelude.{◌↔◌, List, length}
use Rattle.dps_terms.specs.Tree.{Tree}
use Rattle.dps_signature.specs.Signature.{Signature}
use Rattle.dps_theory.specs.Theory.{Theory}
use Rattle.dps_theory.specs.Frames.{AreStaticallyEquivalent, Test, succeeds, equal, IsTest, HoldsIn}
use Rattle.dps_theory.specs.LawsOfTests.{PassSameTests}
use Rattle.dps_theory.proofs.laws.equivalence_is_of_tests.Goals as goal

module _ (signature : Signature) (theory : Theory) (first second : List Tree) where
  same_test : AreStaticallyEquivalent signature theory first second → (test : Test) → IsTest signature (length first) test → HoldsIn theory first test ↔ HoldsIn theory second test
  same_test e (succeeds r) h = e.same_successes r h
  same_test e (equal r s) h = e.same_equalities r s h.0 h.1

  to_tests : AreStaticallyEquivalent signature theory first second → PassSameTests signature theory first second
  to_tests e = record { same_length = e.same_length; same_tests = same_test e }

  from_tests : PassSameTests signature theory first second → AreStaticallyEquivalent signature theory first second
  from_tests e = record {
    same_length = e.same_length;
    same_successes = λ r h. e.same_tests (succeeds r) h;
    same_equalities = λ r s h k. e.same_tests (equal r s) (h, k);
  }

pub returns : goal.returns
returns c = λ signature theory first second. (to_tests signature theory first second, from_tests signature theory first second)
