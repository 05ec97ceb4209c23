use Rattle.std.proofs.Common.{sym, subst, arith, true≢false, ◌∙◌}
use Rattle.std.proofs.lemmas.Result.{IfOk-weaker}
use Rattle.dps_theory.specs.Theory.{Theory, IsAccepted, HasPlainRules}
use Rattle.dps_theory.specs.Evaluation.{Evaluates, IsMessage}
use Rattle.dps_process.specs.Process.{Process}
use Rattle.dps_semantics.specs.Parts.{StandForJust}
use Rattle.dps_semantics.specs.Coming.{ComesTo}
use Rattle.dps_semantics.specs.Settling.{IsPrefix}
use Rattle.dps_semantics.proofs.Closing.{closed_some}
use Rattle.dps_semantics.proofs.Equals.{value_some, value_none}
use Rattle.dps_semantics.proofs.Cases.{bind_falls, nil_stands, parallel_stands, choice_stands, then_stands, else_stands, bound_stands, unbound_stands, prefix_stands}
use Rattle.dps_semantics.proofs.coming.+comes_to.Goals as goal

pub put-requires : goal.put-requires
put-requires t c =
    let accepted = subst IsAccepted (sym c.theory.ensures.theory) c.theory.ensures.lawful.theory.accepted in
    let plain = subst HasPlainRules (sym c.theory.ensures.theory) c.theory.ensures.lawful.theory.rules_plain in
    closed_some c.theory.result.now c.in-Bind.term.now c.in-Some.message c.in_ok-message-in-Bind.field-0 accepted plain c.in_ok-message-in-Bind.ensures c.in-Some.is

pub comes_to-requires-in-Some : goal.comes_to-requires-in-Some
comes_to-requires-in-Some t c =
    let h = bind_falls c.in-Bind.variable c.in-Bind.term.now c.in-Some.message c.in-Bind.then.now c.in-Bind.other.now c.args.process.now c.in_ok-then-in-Some.then c.in-Bind.ensures
    c.in_ok-then-in-Some.ensures in
    (omega (arith, h, c.decreases), tt)

pub returns-in-Nil : goal.returns-in-Nil
returns-in-Nil t c =
    let table = c.args.parts.now in
    IfOk-weaker c.of.result _ (λ bags. StandForJust (ComesTo c.args.problem.now.theory c.args.process.now) table table bags)
    (λ bags j. subst (λ (p : Process). StandForJust (ComesTo c.args.problem.now.theory p) table table bags) c.in-Nil.ensures
    (nil_stands c.args.problem.now.theory table bags (rw c.new.ensures.items at j))) c.of.ensures

pub returns-in_ok-right-in-Parallel : goal.returns-in_ok-right-in-Parallel
returns-in_ok-right-in-Parallel t c =
    let old = c.args.parts.now in
    let new = c.comes_to-in-Parallel.new.parts in
    IfOk-weaker c.joined.result _ (λ bags. StandForJust (ComesTo c.args.problem.now.theory c.args.process.now) old new bags)
    (λ bags j. subst (λ (p : Process). StandForJust (ComesTo c.args.problem.now.theory p) old new bags) c.in-Parallel.ensures
    (parallel_stands c.args.problem.now.theory c.in-Parallel.left.now c.in-Parallel.right.now old c.comes_to.new.parts new c.in_ok-left-in-Parallel.left c.in_ok-right-in-Parallel.right
    bags c.in_ok-left-in-Parallel.ensures c.in_ok-right-in-Parallel.ensures j)) c.joined.ensures

pub returns-in_ok-join-in-Choice : goal.returns-in_ok-join-in-Choice
returns-in_ok-join-in-Choice t c =
    let old = c.args.parts.now in
    let new = c.comes_to-in-Choice-2.new.parts in
    subst (λ (p : Process). StandForJust (ComesTo c.args.problem.now.theory p) old new c.join.new.self) c.in-Choice.ensures
    (choice_stands c.args.problem.now.theory c.in-Choice.left.now c.in-Choice.right.now old c.comes_to-in-Choice.new.parts new c.in_ok-bags-in-Choice.bags c.in_ok-others-in-Choice.others
    c.join.new.self c.in_ok-bags-in-Choice.ensures c.in_ok-others-in-Choice.ensures c.in_ok-join-in-Choice.ensures.added)

pub returns-then-branch : goal.returns-then-branch
returns-then-branch t c =
    let old = c.args.parts.now in
    let new = c.comes_to-then-branch.new.parts in
    let theory = c.args.problem.now.theory in
    IfOk-weaker c.comes_to-then-branch.result _ (λ bags. StandForJust (ComesTo theory c.args.process.now) old new bags)
    (λ bags j. subst (λ (p : Process). StandForJust (ComesTo theory p) old new bags) c.in-Conditional.ensures
    (then_stands theory c.in-Conditional.left.now c.in-Conditional.right.now c.in-Conditional.then.now c.in-Conditional.other.now old new bags
    (c.in_ok-are_equal-in-Conditional.ensures.0 c.if-branch.true) j)) c.comes_to-then-branch.ensures

pub returns-else-branch : goal.returns-else-branch
returns-else-branch t c =
    let old = c.args.parts.now in
    let new = c.comes_to-in-Conditional.new.parts in
    let theory = c.args.problem.now.theory in
    IfOk-weaker c.comes_to-in-Conditional.result _ (λ bags. StandForJust (ComesTo theory c.args.process.now) old new bags)
    (λ bags j. subst (λ (p : Process). StandForJust (ComesTo theory p) old new bags) c.in-Conditional.ensures
    (else_stands theory c.in-Conditional.left.now c.in-Conditional.right.now c.in-Conditional.then.now c.in-Conditional.other.now old new bags
    (λ e. true≢false (sym (c.in_ok-are_equal-in-Conditional.ensures.1 e) ∙ c.if-branch.false)) j)) c.comes_to-in-Conditional.ensures

pub returns-in_ok-then-in-Some : goal.returns-in_ok-then-in-Some
returns-in_ok-then-in-Some t c =
    let old = c.args.parts.now in
    let new = c.comes_to-in-Some.new.parts in
    let theory = c.args.problem.now.theory in
    let term = c.in-Bind.term.now in
    let value = value_some c.theory.result.now term c.in-Some.message c.in_ok-message-in-Bind.field-0 c.in_ok-message-in-Bind.ensures c.in-Some.is in
    let evaluates = subst (λ (th : Theory). Evaluates th term c.in-Some.message) c.theory.ensures.theory value in
    IfOk-weaker c.comes_to-in-Some.result _ (λ bags. StandForJust (ComesTo theory c.args.process.now) old new bags)
    (λ bags j. subst (λ (p : Process). StandForJust (ComesTo theory p) old new bags) c.in-Bind.ensures
    (bound_stands theory c.in-Bind.variable term c.in-Some.message c.in-Bind.then.now c.in-Bind.other.now c.in_ok-then-in-Some.then old new bags c.theory.ensures.lawful.theory.accepted
    evaluates c.in_ok-then-in-Some.ensures j)) c.comes_to-in-Some.ensures

pub returns-in-None : goal.returns-in-None
returns-in-None t c =
    let old = c.args.parts.now in
    let new = c.comes_to-in-None.new.parts in
    let theory = c.args.problem.now.theory in
    let term = c.in-Bind.term.now in
    let none = value_none c.theory.result.now term c.in_ok-message-in-Bind.field-0 c.in_ok-message-in-Bind.ensures c.in-None.is in
    let no_message = subst (λ (th : Theory). ¬ IsMessage th term) c.theory.ensures.theory none in
    IfOk-weaker c.comes_to-in-None.result _ (λ bags. StandForJust (ComesTo theory c.args.process.now) old new bags)
    (λ bags j. subst (λ (p : Process). StandForJust (ComesTo theory p) old new bags) c.in-Bind.ensures
    (unbound_stands theory c.in-Bind.variable term c.in-Bind.then.now c.in-Bind.other.now old new bags no_message j)) c.comes_to-in-None.ensures

pub returns-in-Input : goal.returns-in-Input
returns-in-Input t c =
    let theory = c.args.problem.now.theory in
    IfOk-weaker c.one_part.result _ (λ bags. StandForJust (ComesTo theory c.args.process.now) c.args.parts.now c.one_part.new.parts bags)
    (λ bags j. prefix_stands theory c.args.process.now c.args.parts.now c.one_part.new.parts bags (subst IsPrefix c.in-Input.ensures tt) j) c.one_part.ensures

pub returns-in-Output : goal.returns-in-Output
returns-in-Output t c =
    let theory = c.args.problem.now.theory in
    IfOk-weaker c.one_part-in-Output.result _ (λ bags. StandForJust (ComesTo theory c.args.process.now) c.args.parts.now c.one_part-in-Output.new.parts bags)
    (λ bags j. prefix_stands theory c.args.process.now c.args.parts.now c.one_part-in-Output.new.parts bags (subst IsPrefix c.in-Output.ensures tt) j) c.one_part-in-Output.ensures
