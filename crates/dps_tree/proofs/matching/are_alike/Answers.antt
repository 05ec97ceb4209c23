use Rattle.std.proofs.Common.{subst}
use Rattle.dps_static.specs.Answer.{IsAnswerUnder}
use Rattle.dps_tree.proofs.Matchings.{same_alike, differ_alike}
use Rattle.dps_tree.proofs.matching.are_alike.Goals as goal
use Rattle.dps_tree.proofs.matching.are_alike.Goals.{in-Same, in-Differ}

pub returns : goal.returns
returns c =
    elim c.match-branch-2.branch [
      | in-Same w ↦ rw w.result-is
          (same_alike c.args.theory.now c.args.first.now c.args.second.now (subst (IsAnswerUnder c.args.theory.now c.args.first.now c.args.second.now) w.in-Same.is c.in_ok-compare.ensures))
      | in-Differ w ↦ rw w.result-is
          (differ_alike c.args.theory.now c.args.first.now c.args.second.now _ (subst (IsAnswerUnder c.args.theory.now c.args.first.now c.args.second.now) w.in-Differ.is c.in_ok-compare.ensures))
    ]
