use Rattle.std.proofs.Common.{List, take}
use Rattle.dps_process.specs.Process.{Process}
use Rattle.dps_semantics.specs.Parts.{StandForJust}
use Rattle.dps_semantics.specs.Coming.{AllComeTo}
use Rattle.dps_semantics.proofs.Lists.{taken_more}
use Rattle.dps_semantics.proofs.Cases.{none_stand, more_stand}
use Rattle.dps_semantics.proofs.coming.all_come_to.Goals as goal

pub loop-index-init : goal.loop-index-init
loop-index-init c = none_stand c.args.problem.now.theory c.args.parts.now c.in_ok-bags.bags (rw c.new.ensures.items at c.in_ok-bags.ensures)

pub loop-index-preserved : goal.loop-index-preserved
loop-index-preserved c =
    let theory = c.args.problem.now.theory in
    let i = c.loop-index.index in
    let processes = c.args.processes.now in
    taken_more (λ (ps : List Process). StandForJust (AllComeTo theory ps) c.args.parts.now c.comes_to.new.parts c.in_ok-bags-2.bags) processes i c.index-processes-index.result
    c.index-processes-index.is c.loop-index-test.true
    (more_stand theory (take i processes) c.index-processes-index.result c.args.parts.now c.loop-index.parts c.comes_to.new.parts c.loop-index.bags c.in_ok-more.more c.in_ok-bags-2.bags
    c.loop-index.invariant c.in_ok-more.ensures c.in_ok-bags-2.ensures)
