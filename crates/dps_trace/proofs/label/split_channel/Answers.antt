use Rattle.dps_trace.proofs.Labels.{unknown_channel, nothing_behind, both_parts}
use Rattle.dps_trace.proofs.label.split_channel.Goals as goal

pub returns-in_default-public_named-clause-only : goal.returns-in_default-public_named-clause-only
returns-in_default-public_named-clause-only c = λ n within h e.
    unknown_channel c.args.signature.now c.requires n within c.args.text.now c.in-Some.name.now c.in-Some.behind.now c.in-Some.ensures.found
    c.in_default-public_named.ensures h e

pub returns-in_default-split_last-clause-only : goal.returns-in_default-split_last-clause-only
returns-in_default-split_last-clause-only c = λ n within h e.
    nothing_behind c.args.signature.now c.requires n within c.args.text.now c.in-Some.name.now c.in-Some.behind.now c.in-Some.ensures.found
    c.in_default-split_last.ensures.cases h e

pub returns-clause-only : goal.returns-clause-only
returns-clause-only c = λ n within h e.
    both_parts c.args.signature.now c.requires n c.in-Some-public_named.channel within c.args.text.now c.in-Some.name.now c.in-Some.behind.now
    c.in-Some-split_last.inside.now c.in-Some-split_last.field-0-0.now c.in-Some.ensures.found c.in-Some-public_named.ensures
    c.in-Some-split_last.ensures.cases h e
