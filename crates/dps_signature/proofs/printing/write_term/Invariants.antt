use Rattle.std.proofs.Common.{◌++◌, string_bytes}
use Rattle.std.specs.Prelude.{reverse}
use Rattle.dps_terms.specs.Seen.{seen}
use Rattle.dps_terms.specs.Walk.{subterms_from}
use Rattle.dps_signature.specs.Text.{text_with}
use Rattle.dps_signature.specs.Unwritten.{IsWriting}
use Rattle.dps_signature.proofs.printing.write_term.Given as goal

abbrev pub invariant-loop-node : goal.invariant-loop-node
invariant-loop-node g l =
    let leaves = g.W.LeafWriter.leaf_bytes l.leaves in
    IsWriting leaves l.signature (string_bytes l.text) (reverse l.brackets.items) (subterms_from (seen l.term) l.node) (string_bytes l.initial.text ++ text_with leaves l.signature (seen l.term))
