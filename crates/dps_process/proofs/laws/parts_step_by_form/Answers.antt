use Rattle.dps_process.proofs.StepForms.{nil_ends, parallel_splits, choice_chooses, test_branches, binding_branches, input_receives, output_sends}
use Rattle.dps_process.proofs.laws.parts_step_by_form.Goals as goal

pub returns : goal.returns
returns c = record {
  nil = nil_ends;
  parallel = parallel_splits;
  choice = choice_chooses;
  test = test_branches;
  binding = binding_branches;
  input = input_receives;
  output = output_sends;
}
