use Rattle.dps_trace.proofs.LabelLike.{no_handle, output_is}
use Rattle.dps_trace.proofs.label.output_like.Goals as goal

pub returns-in-Some-handle_read-clause-only : goal.returns-in-Some-handle_read-clause-only
returns-in-Some-handle_read-clause-only c = λ n j h e.
    output_is c.args.signature.now c.requires c.args.rest.now c.in-Some.handle.now c.in-Some.channel c.in-Some-handle_read.number n j
    c.in-Some.ensures.only c.in-Some-handle_read.ensures h e

pub returns-in-None-clause-only : goal.returns-in-None-clause-only
returns-in-None-clause-only c = λ n j h e.
    no_handle c.args.signature.now c.requires c.args.rest.now c.in-Some.handle.now c.in-Some.channel n j c.in-Some.ensures.only c.in-None.ensures h e
