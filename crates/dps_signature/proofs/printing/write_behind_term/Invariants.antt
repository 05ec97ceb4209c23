use Rattle.std.proofs.Common.{ℕ, List, length, string_bytes}
use Rattle.std.specs.Prelude.{reverse}
use Rattle.dps_terms.specs.Tree.{Leaf, Tree}
use Rattle.dps_signature.specs.Signature.{Signature}
use Rattle.dps_signature.specs.Unwritten.{IsBehindTerm}
use Rattle.dps_signature.proofs.printing.write_behind_term.Given as goal

abbrev pub invariant-loop-left : goal.invariant-loop-left
invariant-loop-left l =
    (leaves : Leaf → List ℕ) (signature : Signature) (ts : List Tree) (whole : List ℕ)
    → IsBehindTerm leaves signature (string_bytes l.initial.text) (reverse l.initial.brackets.items) ts whole
    → IsBehindTerm leaves signature (string_bytes l.text) (reverse l.brackets.items) ts whole

abbrev pub decreases-loop-left : goal.decreases-loop-left
decreases-loop-left l = length l.brackets.items
