use Rattle.std.proofs.Common.{◌≤◌, ◌+◌, ◌-◌, length, drop, arith}
use Rattle.std.proofs.lemmas.List.{take_all, length-drop}
use Rattle.dps_bags.proofs.Drawing.{left_ascending}
use Rattle.dps_bags.proofs.bag.without.Goals as goal

pub returns-clause-ascending : goal.returns-clause-ascending
returns-clause-ascending c a =
    let bag = c.args.bag.now in
    let next = c.args.place + 1 in
    let all : length (drop next bag) ≤ length bag - next = omega (arith, length-drop next bag) in
    rw (c.in_ok-extend_from_slice-2.ensures.items, c.in_ok-extend_from_slice.ensures.items, c.in_ok-rest.ensures.items, take_all (length bag - next) (drop next bag) all)
    (left_ascending bag c.args.place c.requires a)
