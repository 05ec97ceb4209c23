use Rattle.std.proofs.Common.{◌++◌, ◌+◌, ap, sym, subst, string_bytes}
use Rattle.std.specs.Prelude.{reverse}
use Rattle.dps_terms.specs.Seen.{seen}
use Rattle.dps_terms.specs.Walk.{subterms_from}
use Rattle.dps_signature.specs.Text.{text_with}
use Rattle.dps_signature.specs.Unwritten.{IsWriting}
use Rattle.dps_signature.proofs.Unwriting.{begun}
use Rattle.dps_signature.proofs.printing.write_term.Goals as goal

pub loop-node-init : goal.loop-node-init
loop-node-init g c =
    let leaves = g.W.LeafWriter.leaf_bytes c.args.leaves.now in
    let t = seen c.args.term in
    let whole = string_bytes c.args.text.now ++ text_with leaves c.args.signature.now t in
    subst (λ ks. IsWriting leaves c.args.signature.now (string_bytes c.args.text.now) ks (subterms_from t 0) whole) (sym (ap reverse c.new-brackets.ensures.items))
    (begun leaves c.args.signature.now (string_bytes c.args.text.now) t)

pub loop-node-preserved : goal.loop-node-preserved
loop-node-preserved g c =
    let leaves = g.W.LeafWriter.leaf_bytes c.args.leaves.now in
    let t = seen c.args.term in
    let i = c.loop-node.node in
    let whole = string_bytes c.args.text.now ++ text_with leaves c.args.signature.now t in
    let here = subst (λ ts. IsWriting leaves c.args.signature.now (string_bytes c.loop-node.text) (reverse c.loop-node.brackets.items) ts whole) c.subterm.ensures.first c.loop-node.invariant in
    c.in_ok-write_node.ensures (subterms_from t (i + 1)) whole c.subterm.ensures.below here
