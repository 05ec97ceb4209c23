use Rattle.dps_meaning.proofs.OneFault.{one_theory_fault_of_text}
use Rattle.dps_meaning.proofs.laws.no_text_has_two_theory_faults.Goals as goal

pub returns : goal.returns
returns c =
    one_theory_fault_of_text c.no_text_has_two_files.ensures c.no_text_has_two_faults.ensures c.no_text_is_file_and_has_fault.ensures c.no_program_has_two_flaws.ensures
