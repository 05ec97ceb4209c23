use Rattle.std.proofs.Common.{◌≡◌, List, ◌++◌, sym, ◌∙◌, rules, refl, Err}
use Rattle.std.proofs.lemmas.List.{append-nil}
use Rattle.dps_terms.specs.Seen.{seen}
use Rattle.dps_elab.specs.Expansion.{Value, tree_in, privates_of}
use Rattle.dps_elab.specs.Locals.{locals_from}
use Rattle.dps_elab.specs.Writing.{IsBuiltWithin}
use Rattle.dps_elab.specs.declared.stop.Stop.TheVariants.{TooLarge}
use Rattle.dps_elab.proofs.Turns.{on_top}
use Rattle.dps_elab.proofs.writer.Writer.term.Goals as goal

pub returns-clause-ok : goal.returns-clause-ok
returns-clause-ok c =
    let w = c.args.self.now in
    let locals : List Value = locals_from c.args.scope.first c.args.self.now.stack.items in
    let top = on_top c.as_slice.result.now c.args.self.now.stack.items c.args.scope.first c.len.result c.as_slice.ensures.value (search rules) in
    let tree : seen c.whole-tree.result ≡ c.args.written.now.tree = search rules in
    let h : IsBuiltWithin c.args.self.now.nodes_left c.build.new.nodes_left c.args.depth (tree_in locals c.args.written.now.tree) c.in_ok-term.term =
    rw (← top, ← tree) c.in_ok-term.ensures.ok in
    let top2 = on_top c.as_slice-2.result.now c.args.self.now.stack.items c.args.scope.first c.len.result c.as_slice-2.ensures.value (search rules) in
    let uses : c.as_slice-uses.result.now ≡ c.args.written.now.uses = search rules in
    let more : c.add_privates.new.found.items ≡ c.args.self.now.privates.items ++ privates_of locals c.args.written.now.uses = rw (← top2, ← uses) (search rules) in
    record {
      same = c.in_ok-boxed.ensures.ok ∙ h.same;
      stack = refl;
      added = record { channels_then = sym (append-nil c.args.self.now.channels.items); privates_then = more; numbers = refl; taken = h.nodes };
      low = h.low;
    }

pub returns-in_err-term-clause-large : goal.returns-in_err-term-clause-large
returns-in_err-term-clause-large c =
    λ e.
    let locals : List Value = locals_from c.args.scope.first c.args.self.now.stack.items in
    let top = on_top c.as_slice.result.now c.args.self.now.stack.items c.args.scope.first c.len.result c.as_slice.ensures.value (search rules) in
    let tree : seen c.whole-tree.result ≡ c.args.written.now.tree = search rules in
    let k : c.build.result ≡ Err TooLarge = search rules in
    rw (← top, ← tree) (c.build.ensures.large k)
