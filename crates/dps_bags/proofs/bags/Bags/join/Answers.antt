use Rattle.std.proofs.Common.{refl, inr, ℕ, List, map, ap, sym, subst, ◌∙◌, Vec, Global, true≢false, arith}
use Rattle.dps_bags.proofs.Holding.{mapped_pushed, no_items_left, contains_pushed}
use Rattle.dps_bags.proofs.Joining.{Lists}
use Rattle.dps_bags.proofs.Taking.{TakesOver, takes_more, takes_all}
use Rattle.dps_bags.proofs.bags.Bags.join.Goals as goal

abbrev numbers_of : Vec ℕ Global → List ℕ
numbers_of bag = bag.items

pub loop-bag-preserved : goal.loop-bag-preserved
loop-bag-preserved c =
    let left = c.pop.new.self.items in
    let split = ap (map numbers_of) c.in-Some.ensures.items ∙ mapped_pushed numbers_of left c.in-Some.bag in
    takes_more c.args.self.now c.args.other (map numbers_of left) c.loop-bag.self c.add.new.self c.in-Some.bag.items
    (subst (λ (bs : Lists). TakesOver c.args.self.now c.args.other bs c.loop-bag.self) split c.loop-bag.invariant)
    c.in_ok-add.ensures.added c.in_ok-add.ensures.longer

pub add-requires : goal.add-requires
add-requires c =
    let left = c.pop.new.self.items in
    let bags : Lists = map numbers_of left in
    let split = ap (map numbers_of) c.in-Some.ensures.items ∙ mapped_pushed numbers_of left c.in-Some.bag in
    let taken = subst (λ (bs : Lists). TakesOver c.args.self.now c.args.other bs c.loop-bag.self) split c.loop-bag.invariant in
    let kept = rw c.other.view_is at c.other.invariant.0 in
    kept.ascending c.in-Some.bag.items (taken.left_over c.in-Some.bag.items ((contains_pushed bags c.in-Some.bag.items c.in-Some.bag.items).1 (inr refl)))

pub returns-clause-added : goal.returns-clause-added
returns-clause-added c =
    let none = no_items_left c.loop-bag.left.items (λ h. true≢false (sym (c.in_default.ensures.variant.1 (omega (arith, h, c.loop-bag.left.ok))))) in
    takes_all c.args.self.now c.args.other c.loop-bag.self
    (subst (λ (vs : List (Vec ℕ Global)). TakesOver c.args.self.now c.args.other (map numbers_of vs) c.loop-bag.self) none c.loop-bag.invariant)
