use Rattle.dps_meaning.proofs.OneMeaning.{theory_or_fault}
use Rattle.dps_meaning.proofs.laws.no_text_has_fault_and_theory.Goals as goal

pub returns : goal.returns
returns c =
    theory_or_fault c.no_text_has_two_readings.ensures c.no_tokens_have_two_trees.ensures c.no_text_is_file_and_has_fault.ensures c.flawed_programs_are_not_accepted.ensures
