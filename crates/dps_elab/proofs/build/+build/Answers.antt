use Rattle.std.proofs.Common.{◌≡◌, ◌+◌, ◌-◌, arith, subst, rules, Err}
use Rattle.dps_terms.specs.Tree.{Tree}
use Rattle.dps_terms.specs.Seen.{seen}
use Rattle.dps_terms.specs.Views.{arguments}
use Rattle.dps_elab.specs.Expansion.{value_at, tree_in}
use Rattle.dps_elab.specs.Locals.{in_frame, values}
use Rattle.dps_elab.specs.Writing.{IsTooLargeTerm}
use Rattle.dps_elab.specs.declared.stop.Stop.TheVariants.{TooLarge}
use Rattle.dps_elab.proofs.Terms.{put_app, large_app, put_more, large_more}
use Rattle.dps_elab.proofs.build.+build.Goals as goal

pub put_arguments-loop-left-preserved : goal.put_arguments-loop-left-preserved
put_arguments-loop-left-preserved t c =
    let back : c.loop-left.left - 1 + 1 ≡ c.loop-left.left = omega arith in
    record {
      within = omega (arith, c.loop-left.invariant.within);
      put = put_more (tree_in (in_frame (values c.args.stack.now) c.args.frame)) c.args.nodes_left.now c.loop-left.nodes_left c.put_term.new.nodes_left c.args.depth (arguments (seen c.args.term))
          c.args.built.now c.loop-left.built c.put_term.new.built (c.loop-left.left - 1) (seen c.argument.result) c.argument.ensures (rw back c.loop-left.invariant.put) c.in_ok-put_term.ensures.ok;
    }

pub put_arguments-returns-in_err-put_term-clause-large : goal.put_arguments-returns-in_err-put_term-clause-large
put_arguments-returns-in_err-put_term-clause-large t c =
    λ e.
    let back : c.loop-left.left - 1 + 1 ≡ c.loop-left.left = omega arith in
    let k : c.put_term.result ≡ Err TooLarge = search rules in
    large_more (tree_in (in_frame (values c.args.stack.now) c.args.frame)) c.args.nodes_left.now c.loop-left.nodes_left c.args.depth (arguments (seen c.args.term))
    c.args.built.now c.loop-left.built (c.loop-left.left - 1) (seen c.argument.result) (rw back c.loop-left.invariant.put) c.argument.ensures (c.put_term.ensures.large k)

pub put_local-returns-in-Argument-clause-large : goal.put_local-returns-in-Argument-clause-large
put_local-returns-in-Argument-clause-large t c =
    λ e.
    let same : tree_in (in_frame (values c.args.stack.now) c.in-Argument.outer) (seen c.whole.result) ≡ (value_at (in_frame (values c.args.stack.now) c.args.frame) c.args.number).tree = search
    rules in
    let P : Tree → Type 0 = λ u. IsTooLargeTerm c.args.nodes_left.now c.args.depth u in
    subst P same (c.put_term.ensures.large e)

pub put_term-returns-in_err-put_arguments-in-App-clause-large : goal.put_term-returns-in_err-put_arguments-in-App-clause-large
put_term-returns-in_err-put_arguments-in-App-clause-large t c =
    λ e.
    let k : c.put_arguments.result ≡ Err TooLarge = search rules in
    large_app c.args.nodes_left.now c.take_node.new.nodes_left c.args.depth c.in_ok-depth-in-App.depth (in_frame (values c.args.stack.now) c.args.frame)
    (seen c.args.term) c.in-App.sym (search rules) (search rules) (search rules) (c.put_arguments.ensures.large k)

pub put_term-returns-in_ok-apply-in-App-clause-ok : goal.put_term-returns-in_ok-apply-in-App-clause-ok
put_term-returns-in_ok-apply-in-App-clause-ok t c =
    put_app c.args.nodes_left.now c.take_node.new.nodes_left c.put_arguments.new.nodes_left c.args.depth c.in_ok-depth-in-App.depth
    (in_frame (values c.args.stack.now) c.args.frame) (seen c.args.term) c.in-App.sym c.arity.result c.args.built.now c.put_arguments.new.built c.apply.new.self
    (search rules) c.arity.ensures.number (search rules) (search rules) c.in_ok-put_arguments-in-App.ensures.ok c.in_ok-apply-in-App.ensures.ok
