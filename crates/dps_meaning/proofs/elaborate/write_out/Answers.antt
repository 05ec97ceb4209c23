use Rattle.dps_process.specs.Models.{model_of}
use Rattle.dps_meaning.proofs.Answering.{sides_refused, lawful, high}
use Rattle.dps_meaning.proofs.elaborate.write_out.Goals as goal

pub problem_of-requires-clause-lawful : goal.problem_of-requires-clause-lawful
problem_of-requires-clause-lawful c =
    lawful c.args.file.now.declarations.items c.args.checked c.requires (model_of c.args.model) c.in-Ok.sides.left c.in-Ok.sides.right c.in-Ok.ensures.ok c.programs_are_well_formed.ensures
    c.sides_are_lawful.ensures

pub problem_of-requires-clause-binders : goal.problem_of-requires-clause-binders
problem_of-requires-clause-binders c =
    high c.args.file.now.declarations.items c.args.checked c.requires (model_of c.args.model) c.in-Ok.sides.left c.in-Ok.sides.right c.in-Ok.ensures.ok c.binders_are_high.ensures

pub returns-in-Err-clause-refused : goal.returns-in-Err-clause-refused
returns-in-Err-clause-refused c =
    sides_refused c.args.file.now.declarations.items c.args.checked c.requires c.in-Err.refusal c.of_sides.result c.in-Err.ensures.refused c.of_sides.ensures
