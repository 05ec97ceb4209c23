use Rattle.std.proofs.Common.{◌≡◌, List, sym, ◌∙◌, subst, rules, refl, Err}
use Rattle.std.proofs.lemmas.List.{append-nil}
use Rattle.dps_elab.specs.Expansion.{Value, value_at}
use Rattle.dps_elab.specs.Locals.{locals_from}
use Rattle.dps_elab.specs.Writing.{IsBuiltWithin, IsTooLargeTerm}
use Rattle.dps_elab.specs.declared.stop.Stop.TheVariants.{TooLarge}
use Rattle.dps_elab.proofs.Turns.{on_top}
use Rattle.dps_elab.proofs.writer.Writer.local.Goals as goal

pub returns-clause-ok : goal.returns-clause-ok
returns-clause-ok c =
    let top = on_top c.as_slice-stack.result.now c.args.self.now.stack.items c.args.scope.first c.len.result c.as_slice-stack.ensures.value (search rules) in
    let P : List Value → Type 0 = λ ls. IsBuiltWithin c.args.self.now.nodes_left c.build_local.new.nodes_left c.args.depth (value_at ls c.args.number).tree c.in_ok-built.built in
    let h : P (locals_from c.args.scope.first c.args.self.now.stack.items) = subst P top c.in_ok-built.ensures.ok in
    record {
      same = c.in_ok-boxed.ensures.ok ∙ h.same;
      stack = refl;
      added = record { channels_then = sym (append-nil c.args.self.now.channels.items); privates_then = sym (append-nil c.args.self.now.privates.items); numbers = refl; taken = h.nodes };
      low = h.low;
    }

pub returns-in_err-built-clause-large : goal.returns-in_err-built-clause-large
returns-in_err-built-clause-large c =
    λ e.
    let top = on_top c.as_slice-stack.result.now c.args.self.now.stack.items c.args.scope.first c.len.result c.as_slice-stack.ensures.value (search rules) in
    let k : c.build_local.result ≡ Err TooLarge = search rules in
    let P : List Value → Type 0 = λ ls. IsTooLargeTerm c.args.self.now.nodes_left c.args.depth (value_at ls c.args.number).tree in
    subst P top (c.build_local.ensures.large k)
