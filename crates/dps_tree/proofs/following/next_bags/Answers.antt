use Rattle.std.proofs.Common.{ℕ, List, map, take, subst, sym, Vec, Global}
use Rattle.dps_tree.specs.Following.{IsJust, OneGoesOn}
use Rattle.dps_tree.proofs.Holding.{taken_more, mapped_pushed}
use Rattle.dps_tree.proofs.Nexts.{one_more}
use Rattle.dps_tree.proofs.following.next_bags.Goals as goal

pub loop-bag-preserved : goal.loop-bag-preserved
loop-bag-preserved c =
    let table = c.args.table.now in
    let bags = c.list-bag-items.result.now in
    let first = take c.loop-bag.bag-index bags in
    let one = rw c.deref.ensures.value at c.in_ok-add_next.ensures in
    taken_more (λ (vs : List (Vec ℕ Global)). IsJust (OneGoesOn table (map (λ bag. bag.items) vs) c.args.channel) c.add_next.new.next) bags c.loop-bag.bag-index c.bag-item.result c.bag-item.is
    c.loop-bag-test.true
    (subst (λ (ns : List (List ℕ)). IsJust (OneGoesOn table ns c.args.channel) c.add_next.new.next) (sym (mapped_pushed (λ bag. bag.items) first c.bag-item.result))
    (one_more table c.args.channel (map (λ bag. bag.items) first) c.bag-item.result.items _ _ c.loop-bag.invariant one))
