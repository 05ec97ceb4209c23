use Rattle.std.proofs.Common.{subst, sym, ◌∙◌}
use Rattle.dps_process.specs.Traces.{IsEquivalent}
use Rattle.dps_tree.specs.Words.{word_of}
use Rattle.dps_judge.proofs.laws.no_text_is_equivalent_and_attacked.Goals as goal

pub returns : goal.returns
returns c = λ model bytes trace a b.
    let same = c.no_text_means_two_problems.ensures bytes a.problem b.problem a.means.means b.means.means (a.means.in_model ∙ sym b.means.in_model) in
    c.attack_refutes.ensures b.problem b.attack.side (word_of b.attack.channels) b.attack.attack.attack (subst IsEquivalent same a.equivalent)
