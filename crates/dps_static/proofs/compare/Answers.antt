use Rattle.std.proofs.Common.{None}
use Rattle.dps_static.specs.Answer.{IsRefutation}
use Rattle.dps_static.proofs.Comparing.{both_at_most}
use Rattle.dps_static.proofs.compare.Goals as goal

pub returns : goal.returns
returns c = λ signature common other.
    let one : IsRefutation c.args.theory.now c.args.first.now c.args.second.now None = rw c.in_default.is at c.in_ok-test.ensures in
    let two : IsRefutation c.args.theory.now c.args.second.now c.args.first.now None = rw c.in_default-2.is at c.in_ok-test-2.ensures in
    both_at_most signature c.args.theory.now c.args.first.now c.args.second.now c.requires.lengths (one signature common other) (two signature other common)
