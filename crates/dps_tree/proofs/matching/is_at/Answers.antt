use Rattle.std.proofs.Common.{length, ◌∙◌, sym}
use Rattle.dps_tree.proofs.Holding.{contains_item, same_numbers, some_left}
use Rattle.dps_tree.proofs.matching.is_at.Goals as goal

pub returns-then-not-is_empty : goal.returns-then-not-is_empty
returns-then-not-is_empty c t =
    let group = c.in-Some.group.now in
    let there = contains_item c.args.groups.now c.args.place group c.in-Some.ensures.lookup.1 c.in-Some.ensures.lookup.3.0 in
    let some = some_left (length group.bags) c.is_empty.result c.is_empty.ensures.1 c.if-not-is_empty.true in
    let same = same_numbers c.as_slice.result.now c.args.frame.now c.eq.result c.eq.ensures t in
    (group, there, some, sym same ∙ c.as_slice.ensures.value)
