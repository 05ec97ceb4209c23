use Rattle.dps_process.proofs.StepForms.{outputs_meet_inputs, message_is_passed, one_or_two_move}
use Rattle.dps_process.proofs.laws.parts_communicate_by_form.Goals as goal

pub returns : goal.returns
returns c = record { forms = outputs_meet_inputs; message = message_is_passed; steps = one_or_two_move }
