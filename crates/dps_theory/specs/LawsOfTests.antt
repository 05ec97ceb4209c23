-- Static equivalence in terms of tests.
use Rattle.std.specs.Prelude.{◌≡◌, ◌↔◌, List, length}
use Rattle.dps_terms.specs.Tree.{Tree}
use Rattle.dps_signature.specs.Signature.{Signature}
use Rattle.dps_theory.specs.Theory.{Theory}
use Rattle.dps_theory.specs.Frames.{AreStaticallyEquivalent, Test, IsTest, HoldsIn}

-- the frames have one length, and each test holds in both or in neither
pub record PassSameTests (signature : Signature) (theory : Theory) (first second : List Tree) : Type 0 where
  pub same_length : length first ≡ length second
  pub same_tests : (test : Test) → IsTest signature (length first) test → HoldsIn theory first test ↔ HoldsIn theory second test

-- that is static equivalence
abbrev pub EquivalenceIsOfTests : Type 0
EquivalenceIsOfTests =
    (signature : Signature) (theory : Theory) (first second : List Tree)
    → AreStaticallyEquivalent signature theory first second ↔ PassSameTests signature theory first second
