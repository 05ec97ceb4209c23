use Rattle.dps_judge.proofs.PlainPrograms.{file_plain}
use Rattle.dps_judge.proofs.PlainSides.{plain_problem}
use Rattle.dps_judge.proofs.laws.built_texts_are_plain.Goals as goal

pub returns : goal.returns
returns c = λ bytes decls problem text built means lawful.
    plain_problem problem means.program (file_plain decls means.program text.tree.derived text.keywords built means.named) means.signature means.theory means.written lawful
