use Rattle.std.proofs.Common.{sym, ◌∙◌}
use Rattle.dps_trace.proofs.LabelLike.{input_written, no_recipe, input_is}
use Rattle.dps_trace.proofs.label.input_like.Goals as goal

pub returns-in-Some-2-clause-written : goal.returns-in-Some-2-clause-written
returns-in-Some-2-clause-written c =
    input_written c.args.signature.now c.in-Some.recipe.now c.in-Some.channel c.in-Some-2.recipe c.in-Some.ensures.public
    (sym c.in-Some-2.is ∙ c.in_ok-recipe.ensures)

pub returns-in-Some-2-clause-only : goal.returns-in-Some-2-clause-only
returns-in-Some-2-clause-only c = λ n r h e.
    input_is c.args.signature.now c.requires c.args.rest.now c.in-Some.recipe.now c.in-Some.channel n c.in-Some-2.recipe r c.in-Some.ensures.only
    (sym c.in-Some-2.is ∙ c.in_ok-recipe.ensures) h e

pub returns-in-None-clause-only : goal.returns-in-None-clause-only
returns-in-None-clause-only c = λ n r h e.
    no_recipe c.args.signature.now c.requires c.args.rest.now c.in-Some.recipe.now c.in-Some.channel n r c.in-Some.ensures.only
    (sym c.in-None.is ∙ c.in_ok-recipe.ensures) h e
