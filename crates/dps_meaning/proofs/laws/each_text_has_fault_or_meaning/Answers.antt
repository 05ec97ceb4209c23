use Rattle.dps_meaning.proofs.SomeMeaning.{decided}
use Rattle.dps_meaning.proofs.laws.each_text_has_fault_or_meaning.Goals as goal

pub returns : goal.returns
returns c =
    decided c.each_text_is_file_or_has_fault.ensures c.trees_are_declared.ensures c.rules_are_checkable.ensures c.accepted_rules_join_projections.ensures c.faulty_programs_are_flawed.ensures
    c.rules_are_decided.ensures
