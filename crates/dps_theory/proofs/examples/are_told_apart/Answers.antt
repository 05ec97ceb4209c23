use Rattle.std.proofs.Common.{subst, sym}
use Rattle.dps_theory.specs.declared.examples.FramePair.{FramePair}
use Rattle.dps_theory.specs.Frames.{AreStaticallyEquivalent, AreToldApart}
use Rattle.dps_theory.specs.Examples.{signature, theory, a, b, first_of, second_of}
use Rattle.dps_theory.proofs.Encryption.{repetition_told, key_told, ciphertext_told, one_more_told}
use Rattle.dps_theory.proofs.Hiding.{kept_key_hides}
use Rattle.dps_theory.proofs.examples.are_told_apart.Goals as goal

abbrev Apart : FramePair → Type 0
Apart p = AreToldApart signature theory (first_of p) (second_of p)

abbrev Alike : FramePair → Type 0
Alike p = AreStaticallyEquivalent signature theory (first_of p) (second_of p)

pub returns-in-Repetition : goal.returns-in-Repetition
returns-in-Repetition c = subst Apart (sym c.in-Repetition.is) repetition_told

pub returns-in-KeptKey : goal.returns-in-KeptKey
returns-in-KeptKey c = subst Alike (sym c.in-KeptKey.is) (kept_key_hides a b tt tt)

pub returns-in-ToldKey : goal.returns-in-ToldKey
returns-in-ToldKey c = subst Apart (sym c.in-ToldKey.is) key_told

pub returns-in-Ciphertext : goal.returns-in-Ciphertext
returns-in-Ciphertext c = subst Apart (sym c.in-Ciphertext.is) ciphertext_told

pub returns-in-OneMore : goal.returns-in-OneMore
returns-in-OneMore c = subst Apart (sym c.in-OneMore.is) one_more_told
