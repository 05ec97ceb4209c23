use Rattle.std.proofs.Common.{◌≡◌, ◌<◌, ◌∷◌, length, take, drop, sym, ap, ◌∙◌, arith, rules, subst, Err}
use Rattle.std.proofs.lemmas.List.{length-drop}
use Rattle.dps_scopes.specs.Body.{bodies}
use Rattle.dps_scopes.specs.declared.body.Step.{Step}
use Rattle.dps_elab.specs.declared.stop.Stop.TheVariants.{TooLarge}
use Rattle.dps_elab.proofs.Arms.{output_large_sent, output_large_next, output_written, input_large_fits, input_written, conditional_large_first, conditional_large_second, conditional_large_then, conditional_large_else, conditional_written, bind_large_value, bind_large_fits}
use Rattle.dps_elab.proofs.Arms.{bind_large_unfit, bind_written, project_large_fits, project_large_unfit, project_written, test_large_second, test_large_fits, test_large_unfit, test_written, pair_large_first, pair_large_last, pair_written, copies_written}
use Rattle.dps_elab.proofs.Behind.{none_left, head_tail}
use Rattle.std.specs.Option.{option_copied}
use Rattle.dps_elab.specs.Writing.{other_body, numbers_of, IsTooLargeSide, taken_apart_in}
use Rattle.dps_elab.specs.Turns.{written_in, chain_of}
use Rattle.dps_scopes.specs.declared.body.BodyView.{BodyView}
use Rattle.dps_scopes.specs.Views.{shown}
use Rattle.dps_elab.proofs.writer.Writer.+write.Goals as goal

pub output-returns-in_err-sent-clause-large : goal.output-returns-in_err-sent-clause-large
output-returns-in_err-sent-clause-large t c =
    λ e.
    let k : c.term.result ≡ Err TooLarge = search rules in
    output_large_sent c.args.scope c.args.self.now c.take_node.new.self c.args.depth c.in_ok-below.below c.in_ok-below.ensures.ok
    c.args.channel.now c.args.term.now c.args.then.now c.channel.new.self c.in_ok-number.number c.in_ok-number.ensures (c.term.ensures.large k)

pub output-returns-in_err-next-clause-large : goal.output-returns-in_err-next-clause-large
output-returns-in_err-next-clause-large t c =
    λ e.
    let k : c.body.result ≡ Err TooLarge = search rules in
    output_large_next c.args.scope c.args.self.now c.take_node.new.self c.args.depth c.in_ok-below.below c.in_ok-below.ensures.ok
    c.args.channel.now c.args.term.now c.args.then.now c.channel.new.self c.in_ok-number.number c.in_ok-number.ensures
    c.term.new.self c.in_ok-sent.sent.value c.in_ok-sent.ensures.ok (c.body.ensures.large k)

pub output-returns-clause-ok : goal.output-returns-clause-ok
output-returns-clause-ok t c =
    output_written c.args.scope c.args.self.now c.take_node.new.self c.args.depth c.in_ok-below.below c.in_ok-below.ensures.ok
    c.args.channel.now c.args.term.now c.args.then.now c.channel.new.self c.in_ok-number.number c.in_ok-number.ensures
    c.term.new.self c.in_ok-sent.sent.value c.in_ok-sent.ensures.ok c.body.new.self c.in_ok-next.next c.in_ok-written.written c.in_ok-next.ensures.ok c.in_ok-written.ensures

pub input-returns-in_err-fits-clause-large : goal.input-returns-in_err-fits-clause-large
input-returns-in_err-fits-clause-large t c =
    λ e.
    let k : c.taken_apart.result ≡ Err TooLarge = search rules in
    input_large_fits c.args.scope c.args.self.now c.take_node.new.self c.args.depth c.in_ok-below.below c.in_ok-below.ensures.ok
    c.args.channel.now c.args.steps.now c.args.then.now c.channel.new.self c.in_ok-number.number c.in_ok-number.ensures
    c.push_variable.new.self c.in_ok-variable.variable c.len.result c.in_ok-variable.ensures (search rules) (search rules) (c.taken_apart.ensures.large k)

pub input-returns-clause-ok : goal.input-returns-clause-ok
input-returns-clause-ok t c =
    input_written c.args.scope c.args.self.now c.take_node.new.self c.args.depth c.in_ok-below.below c.in_ok-below.ensures.ok
    c.args.channel.now c.args.steps.now c.args.then.now c.channel.new.self c.in_ok-number.number c.in_ok-number.ensures
    c.push_variable.new.self c.in_ok-variable.variable c.len.result c.in_ok-variable.ensures (search rules) (search rules)
    c.taken_apart.new.self c.in_ok-fits.fits c.in_ok-written.written c.in_ok-fits.ensures.ok c.in_ok-written.ensures

pub conditional-returns-in_err-first-clause-large : goal.conditional-returns-in_err-first-clause-large
conditional-returns-in_err-first-clause-large t c =
    λ e.
    let k : c.term.result ≡ Err TooLarge = search rules in
    conditional_large_first c.args.scope c.args.self.now c.take_node.new.self c.args.depth c.in_ok-below.below c.in_ok-below.ensures.ok
    c.args.left.now c.args.right.now c.args.then.now c.args.other.now (c.term.ensures.large k)

pub conditional-returns-in_err-second-clause-large : goal.conditional-returns-in_err-second-clause-large
conditional-returns-in_err-second-clause-large t c =
    λ e.
    let k : c.term-2.result ≡ Err TooLarge = search rules in
    conditional_large_second c.args.scope c.args.self.now c.take_node.new.self c.args.depth c.in_ok-below.below c.in_ok-below.ensures.ok
    c.args.left.now c.args.right.now c.args.then.now c.args.other.now c.term.new.self c.in_ok-first.first.value c.in_ok-first.ensures.ok (c.term-2.ensures.large k)

pub conditional-returns-in_err-equal-clause-large : goal.conditional-returns-in_err-equal-clause-large
conditional-returns-in_err-equal-clause-large t c =
    λ e.
    let k : c.body.result ≡ Err TooLarge = search rules in
    conditional_large_then c.args.scope c.args.self.now c.take_node.new.self c.args.depth c.in_ok-below.below c.in_ok-below.ensures.ok
    c.args.left.now c.args.right.now c.args.then.now c.args.other.now c.term.new.self c.in_ok-first.first.value c.in_ok-first.ensures.ok
    c.term-2.new.self c.in_ok-second.second.value c.in_ok-second.ensures.ok (c.body.ensures.large k)

pub conditional-returns-in_err-unequal-clause-large : goal.conditional-returns-in_err-unequal-clause-large
conditional-returns-in_err-unequal-clause-large t c =
    λ e.
    let k : c.body-2.result ≡ Err TooLarge = search rules in
    conditional_large_else c.args.scope c.args.self.now c.take_node.new.self c.args.depth c.in_ok-below.below c.in_ok-below.ensures.ok
    c.args.left.now c.args.right.now c.args.then.now c.args.other.now c.term.new.self c.in_ok-first.first.value c.in_ok-first.ensures.ok
    c.term-2.new.self c.in_ok-second.second.value c.in_ok-second.ensures.ok c.body.new.self c.in_ok-equal.equal c.in_ok-equal.ensures.ok (c.body-2.ensures.large k)

pub conditional-returns-clause-ok : goal.conditional-returns-clause-ok
conditional-returns-clause-ok t c =
    conditional_written c.args.scope c.args.self.now c.take_node.new.self c.args.depth c.in_ok-below.below c.in_ok-below.ensures.ok
    c.args.left.now c.args.right.now c.args.then.now c.args.other.now c.term.new.self c.in_ok-first.first.value c.in_ok-first.ensures.ok
    c.term-2.new.self c.in_ok-second.second.value c.in_ok-second.ensures.ok c.body.new.self c.in_ok-equal.equal c.in_ok-equal.ensures.ok
    c.body-2.new.self c.in_ok-unequal.unequal c.in_ok-written.written c.in_ok-unequal.ensures.ok c.in_ok-written.ensures

pub bind-returns-in_err-value-clause-large : goal.bind-returns-in_err-value-clause-large
bind-returns-in_err-value-clause-large t c =
    λ e.
    let k : c.term.result ≡ Err TooLarge = search rules in
    bind_large_value c.args.scope c.args.self.now c.take_node.new.self c.args.depth c.in_ok-below.below c.in_ok-below.ensures.ok
    c.args.term.now c.args.steps.now c.args.then.now c.args.other.now (c.term.ensures.large k)

pub bind-returns-in_err-fits-clause-large : goal.bind-returns-in_err-fits-clause-large
bind-returns-in_err-fits-clause-large t c =
    λ e.
    let k : c.taken_apart.result ≡ Err TooLarge = search rules in
    bind_large_fits c.args.scope c.args.self.now c.take_node.new.self c.args.depth c.in_ok-below.below c.in_ok-below.ensures.ok
    c.args.term.now c.args.steps.now c.args.then.now c.args.other.now
    c.term.new.self c.in_ok-value.value.value c.in_ok-value.ensures.ok c.push_variable.new.self c.in_ok-variable.variable c.len.result c.in_ok-variable.ensures (search rules) (search rules)
    (c.taken_apart.ensures.large k)

pub bind-returns-in_err-unfit-clause-large : goal.bind-returns-in_err-unfit-clause-large
bind-returns-in_err-unfit-clause-large t c =
    λ e.
    let k : c.body.result ≡ Err TooLarge = search rules in
    bind_large_unfit c.args.scope c.args.self.now c.take_node.new.self c.args.depth c.in_ok-below.below c.in_ok-below.ensures.ok
    c.args.term.now c.args.steps.now c.args.then.now c.args.other.now
    c.term.new.self c.in_ok-value.value.value c.in_ok-value.ensures.ok c.push_variable.new.self c.in_ok-variable.variable c.len.result c.in_ok-variable.ensures (search rules) (search rules)
    c.taken_apart.new.self c.in_ok-fits.fits c.in_ok-fits.ensures.ok (c.body.ensures.large k)

pub bind-returns-clause-ok : goal.bind-returns-clause-ok
bind-returns-clause-ok t c =
    bind_written c.args.scope c.args.self.now c.take_node.new.self c.args.depth c.in_ok-below.below c.in_ok-below.ensures.ok
    c.args.term.now c.args.steps.now c.args.then.now c.args.other.now
    c.term.new.self c.in_ok-value.value.value c.in_ok-value.ensures.ok c.push_variable.new.self c.in_ok-variable.variable c.len.result c.in_ok-variable.ensures (search rules) (search rules)
    c.taken_apart.new.self c.in_ok-fits.fits c.in_ok-fits.ensures.ok c.body.new.self c.in_ok-unfit.unfit c.in_ok-written.written c.in_ok-unfit.ensures.ok c.in_ok-written.ensures

pub project-returns-in_err-fits-clause-large : goal.project-returns-in_err-fits-clause-large
project-returns-in_err-fits-clause-large t c =
    λ e.
    let k : c.taken_apart.result ≡ Err TooLarge = search rules in
    project_large_fits c.args.scope c.args.self.now c.take_node.new.self c.args.depth c.in_ok-below.below c.in_ok-below.ensures.ok
    c.args.projection c.args.number c.args.rest.steps.now c.args.rest.then.now (other_body (option_copied c.args.rest.otherwise)) c.args.rest.outside (search rules) (search rules)
    c.projection.new.self c.in_ok-value.value.value c.in_ok-value.ensures.ok c.push_variable.new.self c.in_ok-variable.variable c.in_ok-variable.ensures (c.taken_apart.ensures.large k)

pub project-returns-in_err-unfit-clause-large : goal.project-returns-in_err-unfit-clause-large
project-returns-in_err-unfit-clause-large t c =
    λ e.
    let k : c.otherwise.result ≡ Err TooLarge = search rules in
    project_large_unfit c.args.scope c.args.self.now c.take_node.new.self c.args.depth c.in_ok-below.below c.in_ok-below.ensures.ok
    c.args.projection c.args.number c.args.rest.steps.now c.args.rest.then.now (other_body (option_copied c.args.rest.otherwise)) c.args.rest.outside (search rules) (search rules)
    c.projection.new.self c.in_ok-value.value.value c.in_ok-value.ensures.ok c.push_variable.new.self c.in_ok-variable.variable c.in_ok-variable.ensures
    c.taken_apart.new.self c.in_ok-fits.fits c.in_ok-fits.ensures.ok (c.otherwise.ensures.large k)

pub project-returns-clause-ok : goal.project-returns-clause-ok
project-returns-clause-ok t c =
    project_written c.args.scope c.args.self.now c.take_node.new.self c.args.depth c.in_ok-below.below c.in_ok-below.ensures.ok
    c.args.projection c.args.number c.args.rest.steps.now c.args.rest.then.now (other_body (option_copied c.args.rest.otherwise)) c.args.rest.outside (search rules) (search rules)
    c.projection.new.self c.in_ok-value.value.value c.in_ok-value.ensures.ok c.push_variable.new.self c.in_ok-variable.variable c.in_ok-variable.ensures
    c.taken_apart.new.self c.in_ok-fits.fits c.in_ok-fits.ensures.ok c.otherwise.new.self c.in_ok-unfit.unfit c.in_ok-written.written c.in_ok-unfit.ensures.ok c.in_ok-written.ensures

pub test-returns-in_err-second-clause-large : goal.test-returns-in_err-second-clause-large
test-returns-in_err-second-clause-large t c =
    λ e.
    let k : c.term.result ≡ Err TooLarge = search rules in
    test_large_second c.args.scope c.args.self.now c.take_node.new.self c.args.depth c.in_ok-below.below c.in_ok-below.ensures.ok
    c.args.number c.args.term.now c.args.rest.steps.now c.args.rest.then.now (other_body (option_copied c.args.rest.otherwise)) c.args.rest.outside
    c.local.new.self c.in_ok-first.first.value c.in_ok-first.ensures.ok (c.term.ensures.large k)

pub test-returns-in_err-fits-clause-large : goal.test-returns-in_err-fits-clause-large
test-returns-in_err-fits-clause-large t c =
    λ e.
    let k : c.taken_apart.result ≡ Err TooLarge = search rules in
    test_large_fits c.args.scope c.args.self.now c.take_node.new.self c.args.depth c.in_ok-below.below c.in_ok-below.ensures.ok
    c.args.number c.args.term.now c.args.rest.steps.now c.args.rest.then.now (other_body (option_copied c.args.rest.otherwise)) c.args.rest.outside
    c.local.new.self c.in_ok-first.first.value c.in_ok-first.ensures.ok
    c.term.new.self c.in_ok-second.second.value c.in_ok-second.ensures.ok (c.taken_apart.ensures.large k)

pub test-returns-in_err-unfit-clause-large : goal.test-returns-in_err-unfit-clause-large
test-returns-in_err-unfit-clause-large t c =
    λ e.
    let k : c.otherwise.result ≡ Err TooLarge = search rules in
    test_large_unfit c.args.scope c.args.self.now c.take_node.new.self c.args.depth c.in_ok-below.below c.in_ok-below.ensures.ok
    c.args.number c.args.term.now c.args.rest.steps.now c.args.rest.then.now (other_body (option_copied c.args.rest.otherwise)) c.args.rest.outside
    c.local.new.self c.in_ok-first.first.value c.in_ok-first.ensures.ok
    c.term.new.self c.in_ok-second.second.value c.in_ok-second.ensures.ok
    c.taken_apart.new.self c.in_ok-fits.fits c.in_ok-fits.ensures.ok (c.otherwise.ensures.large k)

pub test-returns-clause-ok : goal.test-returns-clause-ok
test-returns-clause-ok t c =
    test_written c.args.scope c.args.self.now c.take_node.new.self c.args.depth c.in_ok-below.below c.in_ok-below.ensures.ok
    c.args.number c.args.term.now c.args.rest.steps.now c.args.rest.then.now (other_body (option_copied c.args.rest.otherwise)) c.args.rest.outside
    c.local.new.self c.in_ok-first.first.value c.in_ok-first.ensures.ok
    c.term.new.self c.in_ok-second.second.value c.in_ok-second.ensures.ok
    c.taken_apart.new.self c.in_ok-fits.fits c.in_ok-fits.ensures.ok c.otherwise.new.self c.in_ok-unfit.unfit c.in_ok-written.written c.in_ok-unfit.ensures.ok c.in_ok-written.ensures

pub pair-returns-in_err-below-clause-large : goal.pair-returns-in_err-below-clause-large
pair-returns-in_err-below-clause-large t c =
    λ e.
    let k : c.take_node.result ≡ Err TooLarge = search rules in
    none_left c.args.self.now.nodes_left c.args.depth (written_in c.args.scope c.args.self.now.stack.items (chain_of c.args.join (bodies c.args.parts.now)) (numbers_of c.args.self.now)).process
    (c.take_node.ensures.large k)

pub pair-returns-in_err-first-clause-large : goal.pair-returns-in_err-first-clause-large
pair-returns-in_err-first-clause-large t c =
    λ e.
    let k : c.body.result ≡ Err TooLarge = search rules in
    let are : c.args.parts.now ≡ c.index-parts-0.result ∷ drop 1 c.args.parts.now = head_tail c.args.parts.now c.index-parts-0.result (search rules) c.index-parts-0.is in
    let some : 0 < length (drop 1 c.args.parts.now) = omega (arith, length-drop 1 c.args.parts.now, c.requires.two) in
    pair_large_first c.args.scope c.args.self.now c.take_node.new.self c.args.depth c.in_ok-below.below c.in_ok-below.ensures.ok
    c.args.join c.args.parts.now (drop 1 c.args.parts.now) c.index-parts-0.result are some (c.body.ensures.large k)

pub pair-returns-in_err-last-clause-large : goal.pair-returns-in_err-last-clause-large
pair-returns-in_err-last-clause-large t c =
    λ e.
    let k : c.chain.result ≡ Err TooLarge = search rules in
    let are : c.args.parts.now ≡ c.index-parts-0.result ∷ c.split_at.result.1.now = head_tail c.args.parts.now c.index-parts-0.result (search rules) c.index-parts-0.is
    ∙ ap (λ x. c.index-parts-0.result ∷ x) (sym c.split_at.ensures.back) in
    let some : 0 < length c.split_at.result.1.now = omega (arith, c.split_at.ensures.back_len, c.requires.two) in
    pair_large_last c.args.scope c.args.self.now c.take_node.new.self c.args.depth c.in_ok-below.below c.in_ok-below.ensures.ok
    c.args.join c.args.parts.now c.split_at.result.1.now c.index-parts-0.result are some c.body.new.self c.in_ok-first.first c.in_ok-first.ensures.ok (c.chain.ensures.large k)

pub pair-returns-clause-ok : goal.pair-returns-clause-ok
pair-returns-clause-ok t c =
    let are : c.args.parts.now ≡ c.index-parts-0.result ∷ c.split_at.result.1.now = head_tail c.args.parts.now c.index-parts-0.result (search rules) c.index-parts-0.is
    ∙ ap (λ x. c.index-parts-0.result ∷ x) (sym c.split_at.ensures.back) in
    let some : 0 < length c.split_at.result.1.now = omega (arith, c.split_at.ensures.back_len, c.requires.two) in
    pair_written c.args.scope c.args.self.now c.take_node.new.self c.args.depth c.in_ok-below.below c.in_ok-below.ensures.ok
    c.args.join c.args.parts.now c.split_at.result.1.now c.index-parts-0.result are some c.body.new.self c.in_ok-first.first c.in_ok-first.ensures.ok c.chain.new.self c.in_ok-last.last
    c.in_ok-written.written c.in_ok-last.ensures.ok c.in_ok-written.ensures

pub one_and_copies-returns-clause-ok : goal.one_and_copies-returns-clause-ok
one_and_copies-returns-clause-ok t c =
    copies_written c.args.scope c.args.self.now c.take_node.new.self c.args.depth c.in_ok-below.below c.in_ok-below.ensures.ok
    c.args.count c.args.body.now c.body.new.self c.copies.new.self c.in_ok-first.first c.in_ok-last.last c.in_ok-written.written (search rules) c.in_ok-first.ensures.ok c.in_ok-last.ensures.ok
    c.in_ok-written.ensures

pub node-returns-in-Output-clause-large : goal.node-returns-in-Output-clause-large
node-returns-in-Output-clause-large t c =
    λ e.
    let P : BodyView → Type 0 = λ v. IsTooLargeSide c.args.self.now.nodes_left c.args.depth (written_in c.args.scope c.args.self.now.stack.items (shown v) (numbers_of c.args.self.now)).process in
    subst P (sym c.in-Output.is) (c.output.ensures.large e)

pub node-returns-in-Conditional-clause-large : goal.node-returns-in-Conditional-clause-large
node-returns-in-Conditional-clause-large t c =
    λ e.
    let P : BodyView → Type 0 = λ v. IsTooLargeSide c.args.self.now.nodes_left c.args.depth (written_in c.args.scope c.args.self.now.stack.items (shown v) (numbers_of c.args.self.now)).process in
    subst P (sym c.in-Conditional.is) (c.conditional.ensures.large e)

pub step-returns-in-Test-clause-large : goal.step-returns-in-Test-clause-large
step-returns-in-Test-clause-large t c =
    λ e.
    let P : Step → Type 0 = λ x. IsTooLargeSide c.args.self.now.nodes_left c.args.depth
    (taken_apart_in c.args.scope c.args.self.now.stack.items (x ∷ c.args.rest.steps.now) c.args.rest.then.now (other_body (option_copied c.args.rest.otherwise))
    (take c.args.rest.outside c.args.self.now.stack.items) (numbers_of c.args.self.now)).process in
    subst P (sym c.in-Test.is) (c.test.ensures.large e)
