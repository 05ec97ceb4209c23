use Rattle.dps_lex.proofs.CommentExamples.{comments}
use Rattle.dps_lex.proofs.laws.comments_are_as_expected.Goals as goal

pub returns : goal.returns
returns c = comments
