use Rattle.std.proofs.Common.{List, take}
use Rattle.std.proofs.lemmas.List.Sorted.{IsNonDecreasingBy-from_sort}
use Rattle.dps_process.specs.Process.{Process}
use Rattle.dps_semantics.proofs.Lists.{taken_more, taken_all}
use Rattle.dps_semantics.proofs.Singles.{NumbersBelow, number_more, number_all}
use Rattle.dps_semantics.proofs.once.numbers_of.Goals as goal

pub loop-index-preserved : goal.loop-index-preserved
loop-index-preserved c =
    let processes = c.args.processes.now in
    let i = c.loop-index.index in
    let old = c.args.table.now in
    let new = c.number.new.self in
    taken_more (λ (ps : List Process). NumbersBelow ps old new c.push.new.self.items) processes i c.index-processes-index.result c.index-processes-index.is c.loop-index-test.true
    (rw c.in_ok-push.ensures.items (number_more (take i processes) old c.loop-index.table new c.index-processes-index.result c.loop-index.numbers.items c.in_ok-number.number
    c.loop-index.invariant c.in_ok-number.ensures))

pub returns : goal.returns
returns c =
    let processes = c.args.processes.now in
    let old = c.args.table.now in
    let new = c.loop-index.table in
    let numbers = c.loop-index.numbers.items in
    number_all processes old new numbers c.sort_unstable.new.self.items
    (taken_all (λ (ps : List Process). NumbersBelow ps old new numbers) processes c.loop-index.index c.loop-index-test.false c.loop-index.invariant) c.sort_unstable.ensures.permutation
    (IsNonDecreasingBy-from_sort (λ x. x) c.sort_unstable.new.self.items c.sort_unstable.ensures.sorted)
