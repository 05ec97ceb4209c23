-- What a reader expects of the names that are declared.
use Rattle.std.specs.Prelude.{◌≡◌, List}
use Rattle.dps_terms.specs.Tree.{Tree}
use Rattle.dps_signature.specs.Signature.{Signature, shapes}
use Rattle.dps_theory.specs.Theory.{Theory}
use Rattle.dps_theory.specs.Frames.{IsFrame, AreStaticallyEquivalent}
use Rattle.dps_process.specs.Problem.{IsLawfulTheory}

-- Frames over a signature that are equivalent under a lawful theory stay so where other names are declared: the rules hold
-- none of these, so that they are of no use to the attacker.
abbrev pub OtherNamesAreUnseen : Type 0
OtherNamesAreUnseen =
    (one two : Signature) (theory : Theory) (first second : List Tree)
    → shapes one ≡ shapes two
    → IsLawfulTheory one theory
    → IsFrame one first
    → IsFrame one second
    → AreStaticallyEquivalent one theory first second
    → AreStaticallyEquivalent two theory first second
