use Rattle.std.proofs.Common.{◌++◌, ℕ, ap, sym, subst, drop, length, string_bytes, ◌∷◌}
use Rattle.std.specs.Prelude.{reverse}
use Rattle.dps_terms.specs.Seen.{seen}
use Rattle.dps_terms.specs.Views.{arguments}
use Rattle.dps_signature.specs.Text.{root_text}
use Rattle.dps_signature.specs.Unwritten.{IsBehindRoot}
use Rattle.dps_signature.proofs.Unwriting.{root_written}
use Rattle.dps_signature.proofs.printing.write_node.Goals as goal

pub returns-in_ok-write_root-in-App : goal.returns-in_ok-write_root-in-App
returns-in_ok-write_root-in-App g c = λ ts whole taken b.
    let leaves = g.W.LeafWriter.leaf_bytes c.args.leaves.now in
    let signature = c.args.signature.now in
    let t = seen c.args.term in
    let ks = reverse c.args.brackets.now.items in
    let behind = root_written leaves signature (string_bytes c.args.text.now) ks t c.in-App.sym ts whole c.in-App.ensures taken b in
    let written = subst (λ bytes. IsBehindRoot leaves signature bytes ks (length (arguments t)) ts whole) (sym c.in_ok-write_root-in-App.ensures) behind in
    c.write_below_root.ensures leaves signature ts whole (subst (λ n. IsBehindRoot leaves signature (string_bytes c.write_root.new.text) ks n ts whole) (sym c.arity.ensures.number) written)
