use Rattle.std.proofs.Common.{◌≡◌, ◌+◌, ◌-◌, List, arith, rules}
use Rattle.dps_terms.specs.Tree.{Tree}
use Rattle.dps_terms.specs.Seen.{seen}
use Rattle.dps_terms.specs.Walk.{subterms_from}
use Rattle.dps_theory.specs.Evaluation.{no_terms}
use Rattle.dps_recipes.proofs.Valuing.{ax_root, no_frame, handle_answer}
use Rattle.dps_recipes.proofs.NodeByNode.{arguments_there, value_put, none_put, one_value, subterm_fails, message_there, applied_put, leaf_put, name_put}
use Rattle.dps_recipes.proofs.evaluation.+values.Goals as goal

pub put_value-value_in-requires : goal.put_value-value_in-requires
put_value-value_in-requires t c =
    let some = message_there c.args.frame.now c.in-Ax.number c.in-Some.message.now (λ other. c.in-Some.ensures other) in
    (omega (arith, some, c.decreases), tt)

pub put_value-returns-in_ok-found-in-App : goal.put_value-returns-in_ok-found-in-App
put_value-returns-in_ok-found-in-App t c =
    applied_put c.args.theory.now c.args.frame.now (seen c.args.recipe) c.in-App.sym c.arity.result c.args.values.now c.put_applied.new.values c.in_ok-found-in-App.found
    c.in_ok-found-in-App.ensures.accepted c.in-App.ensures c.arity.ensures.number c.in_ok-found-in-App.ensures.given

pub put_value-returns-in_ok-push-in-Some-2 : goal.put_value-returns-in_ok-push-in-Some-2
put_value-returns-in_ok-push-in-Some-2 t c =
    let root = ax_root (seen c.args.recipe) c.in-Ax.number c.in-Ax.ensures in
    let has =
    handle_answer c.args.theory.now c.args.frame.now (seen c.args.recipe) c.in-Ax.number c.in-Some.message.now c.in_ok-value-in-Some.field-0 root (λ other. c.in-Some.ensures other)
    (no_frame c.args.theory.now c.in-Some.message.now c.in_ok-value-in-Some.field-0 (rw c.whole.ensures at c.in_ok-value-in-Some.ensures)) in
    leaf_put c.args.theory.now c.args.frame.now (seen c.args.recipe) _ c.args.values.now c.push.new.self c.in-Some-2.value root (search rules) (rw c.in-Some-2.is at has)

pub put_value-returns-in-None-2 : goal.put_value-returns-in-None-2
put_value-returns-in-None-2 t c =
    let has =
    handle_answer c.args.theory.now c.args.frame.now (seen c.args.recipe) c.in-Ax.number c.in-Some.message.now c.in_ok-value-in-Some.field-0
    (ax_root (seen c.args.recipe) c.in-Ax.number c.in-Ax.ensures) (λ other. c.in-Some.ensures other)
    (no_frame c.args.theory.now c.in-Some.message.now c.in_ok-value-in-Some.field-0 (rw c.whole.ensures at c.in_ok-value-in-Some.ensures)) in
    λ h. rw c.in-None-2.is at has

pub put_value-returns-in_ok-push-in-Public : goal.put_value-returns-in_ok-push-in-Public
put_value-returns-in_ok-push-in-Public t c =
    name_put c.args.theory.now c.args.frame.now (seen c.args.recipe) c.view.result c.args.values.now c.push-in-Public.new.self c.view.ensures c.in-Public.is c.in_ok-push-in-Public.ensures.ok

pub value_in-loop-left-init : goal.value_in-loop-left-init
value_in-loop-left-init t c = record { within = omega (arith, c.node_count-left.ensures.count); have = rw (c.node_count-left.ensures.end, c.empty-values.ensures) no_terms }

pub value_in-put_value-requires : goal.value_in-put_value-requires
value_in-put_value-requires t c =
    let back : c.loop-left.left - 1 + 1 ≡ c.loop-left.left = omega arith in
    let behind : List Tree = subterms_from (seen c.args.recipe) c.loop-left.left in (
      omega (arith, c.decreases),
      arguments_there c.args.theory.now c.args.frame.now (seen c.subterm.result) behind c.loop-left.values (rw back at c.subterm.ensures.below) c.loop-left.invariant.have,
    )

pub value_in-returns-then-not-branch : goal.value_in-returns-then-not-branch
value_in-returns-then-not-branch t c =
    let back : c.loop-left.left - 1 + 1 ≡ c.loop-left.left = omega arith in
    let behind : List Tree = subterms_from (seen c.args.recipe) c.loop-left.left in
    subterm_fails c.args.theory.now c.args.frame.now (seen c.args.recipe) (seen c.subterm.result) (c.loop-left.left - 1) _ c.subterm.ensures.first
    (none_put c.args.theory.now c.args.frame.now (seen c.subterm.result) behind c.loop-left.values (rw back at c.subterm.ensures.below) c.loop-left.invariant.have
    (search rules))

pub value_in-loop-left-preserved : goal.value_in-loop-left-preserved
value_in-loop-left-preserved t c =
    let back : c.loop-left.left - 1 + 1 ≡ c.loop-left.left = omega arith in
    let behind : List Tree = subterms_from (seen c.args.recipe) c.loop-left.left in
    record {
      within = omega (arith, c.loop-left.invariant.within);
      have = value_put c.args.theory.now c.args.frame.now (seen c.subterm.result) behind c.loop-left.values (rw back at c.subterm.ensures.below) c.loop-left.invariant.have
          (subterms_from (seen c.args.recipe) (c.loop-left.left - 1)) c.put_value.new.values (rw back at c.subterm.ensures.first) (search rules);
    }

pub value_in-into_term-requires : goal.value_in-into_term-requires
value_in-into_term-requires t c =
    let none_left : c.loop-left.left ≡ 0 = omega arith in
    one_value c.args.theory.now c.args.frame.now (seen c.args.recipe) c.loop-left.values (rw none_left at c.loop-left.invariant.have)
