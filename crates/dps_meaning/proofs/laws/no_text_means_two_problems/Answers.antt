use Rattle.dps_meaning.proofs.OneMeaning.{one_problem}
use Rattle.dps_meaning.proofs.laws.no_text_means_two_problems.Goals as goal

pub returns : goal.returns
returns c =
    one_problem c.no_text_says_two_programs.ensures
