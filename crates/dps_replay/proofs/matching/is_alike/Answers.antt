use Rattle.std.proofs.Common.{List, get_or, subst}
use Rattle.dps_terms.specs.Tree.{Tree}
use Rattle.dps_static.specs.Answer.{IsAnswerUnder}
use Rattle.dps_replay.proofs.Telling.{same_told, answer_told, read_frame}
use Rattle.dps_replay.proofs.matching.is_alike.Goals as goal

pub returns-then-firsts-place : goal.returns-then-firsts-place
returns-then-firsts-place c =
    same_told c.args.theory.now c.args.wanted.now c.args.others.now c.args.place (get_or c.args.firsts.now c.args.place 0) c.args.tests.now.items c.requires.before c.if-firsts-place.true
    (c.requires.firsts.same c.args.place c.requires.within)

pub returns-in_ok-add_test-in-Differ : goal.returns-in_ok-add_test-in-Differ
returns-in_ok-add_test-in-Differ c =
    let theory = c.args.theory.now in
    let wanted = c.args.wanted.now in
    let others = c.args.others.now in
    let answer = c.in_ok-answer.answer in
    let same = read_frame others c.args.place c.index-others-place.result c.frame.result.now c.index-others-place.is c.requires.within c.frame.ensures in
    let told = subst (λ (f : List Tree). IsAnswerUnder theory wanted f answer) same c.in_ok-answer.ensures in
    answer_told theory wanted others c.args.place c.args.tests.now.items c.in-Differ.test c.add_test.new.tests.items answer c.requires.before told c.in-Differ.is c.in_ok-add_test-in-Differ.ensures
