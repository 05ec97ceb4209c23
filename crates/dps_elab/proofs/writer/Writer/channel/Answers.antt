use Rattle.std.proofs.Common.{◌≡◌, ℕ, List, sym, ◌∙◌, arith, rules, refl}
use Rattle.std.proofs.lemmas.List.{append-nil}
use Rattle.dps_terms.specs.Seen.{seen}
use Rattle.dps_terms.specs.Views.{view_of}
use Rattle.dps_elab.specs.Expansion.{Value, tree_in, declared_name}
use Rattle.dps_elab.specs.Locals.{locals_from}
use Rattle.dps_elab.proofs.Turns.{on_top}
use Rattle.dps_elab.proofs.writer.Writer.channel.Goals as goal

pub returns : goal.returns
returns c =
    let names : List ℕ = c.args.scope.private_names.now in
    let locals : List Value = locals_from c.args.scope.first c.args.self.now.stack.items in
    let top = on_top c.as_slice.result.now c.args.self.now.stack.items c.args.scope.first c.len.result c.as_slice.ensures.value (search rules) in
    let tree : seen c.whole.result ≡ c.args.channel.now.tree = search rules in
    let name : c.declared_name-name.result ≡ declared_name names (tree_in locals c.args.channel.now.tree) =
    c.declared_name-name.ensures (tree_in locals c.args.channel.now.tree) (c.root-root.ensures ∙ (λ i. view_of (tree_in (top i) (tree i)))) in
    rw (← name) (record {
      number_is = search rules;
      stack = refl;
      added = record { channels_then = search rules; privates_then = sym (append-nil c.args.self.now.privates.items); numbers = refl; taken = omega arith };
    })
