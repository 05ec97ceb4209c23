use Rattle.std.proofs.Common.{arith, rules}
use Rattle.dps_io.proofs.HeldLemmas.{found_here}
use Rattle.dps_io.proofs.memory.place_of.Goals as goal

pub returns-then-eq-clause-found : goal.returns-then-eq-clause-found
returns-then-eq-clause-found c =
    found_here c.args.files.now c.loop-place.place c.args.name.now c.index-files-place.result (omega arith) c.index-files-place.is
    (let h = c.if-eq.true in let k = c.eq.ensures in let j = c.as_str.ensures.value in search rules) c.loop-place.invariant
