-- The model under which a trace is looked at again.
use Rattle.std.specs.Prelude.{Option, Some, None}
use Rattle.dps_process.specs.Models.{Model}
use Rattle.dps_process.specs.Problem.{Problem}
use Rattle.dps_process.specs.declared.model.CommModel.{CommModel}
use Rattle.dps_process.specs.declared.model.CommModel.TheVariants as values
use Rattle.dps_trace.specs.declared.model.ModelName.{ModelName}
use Rattle.dps_trace.specs.declared.model.ModelName.TheVariants as names

-- the same problem in another model
abbrev pub in_model : Problem → Model → Problem
in_model problem model = record { signature = problem.signature; theory = problem.theory; model = model; left = problem.left; right = problem.right }

-- the name of the model
abbrev pub name_of : CommModel → ModelName
name_of values.Private = names.Private
name_of values.Classic = names.Classic

-- the model with this name; that of an attacker who overhears is not built yet
abbrev pub named : ModelName → Option CommModel
named names.Private = Some values.Private
named names.Classic = Some values.Classic
named names.Eavesdrop = None

-- the option's model, which is the private one where there is no option
abbrev pub or_private : Option CommModel → CommModel
or_private None = values.Private
or_private (Some model) = model

-- the model, where both are one
abbrev pub agreed : CommModel → Option CommModel → Option CommModel
agreed values.Private (Some values.Private) = Some values.Private
agreed values.Classic (Some values.Classic) = Some values.Classic
agreed values.Private (Some values.Classic) = None
agreed values.Classic (Some values.Private) = None
agreed model None = None

-- The model that the trace names, where no option names another; the option's for a trace without a model.
abbrev pub run_model : Option CommModel → Option ModelName → Option CommModel
run_model option None = Some (or_private option)
run_model None (Some name) = named name
run_model (Some model) (Some name) = agreed model (named name)
