use Rattle.dps_theory.proofs.FormsOfTerms.{leaves_evaluate, arguments_evaluate, constructors_evaluate, destructors_evaluate, unknown_symbols_have_no_value}
use Rattle.dps_theory.proofs.laws.terms_evaluate_by_form.Goals as goal

pub returns : goal.returns
returns c = record {
  leaves = leaves_evaluate;
  arguments = arguments_evaluate;
  constructors = constructors_evaluate;
  destructors = destructors_evaluate;
  unknown = unknown_symbols_have_no_value;
}
