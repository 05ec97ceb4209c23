use Rattle.std.proofs.Common.{◌≡◌, ℕ, List, ◌∷◌, [], map, length, sym, ◌∙◌, ap, Vec, Global, true≢false}
use Rattle.dps_bags.specs.Digest.{numbers_digest}
use Rattle.dps_bags.proofs.Holding.{pushed_mapped, mapped_pushed, mapped_length}
use Rattle.dps_bags.proofs.Keeping.{all_noted_same, all_noted_stay, all_noted_more, kept_more, new_bag}
use Rattle.dps_bags.proofs.bags.Bags.add.Goals as goal

abbrev Lists : Type 0
Lists = List (List ℕ)

abbrev numbers_of : Vec ℕ Global → List ℕ
numbers_of bag = bag.items

pub returns-clause-added : goal.returns-clause-added
returns-clause-added c =
    rw (← c.self.view_is, c.in_ok-push.ensures.items) (pushed_mapped (λ bag. bag.items) c.self.inside.list.items c.args.bag)

pub returns-clause-longer : goal.returns-clause-longer
returns-clause-longer c =
    (c.args.bag.items ∷ [], rw (← c.self.view_is, c.in_ok-push.ensures.items) (mapped_pushed (λ bag. bag.items) c.self.inside.list.items c.args.bag))

pub invariant_of-self : goal.invariant_of-self
invariant_of-self c =
    let bags : Lists = map numbers_of c.self.inside.list.items in
    (c.self.invariant.0, all_noted_same (numbers_digest 0) [] bags c.self.inside.places c.add.new.self c.in_err-add.ensures.unchanged c.self.invariant.1)

pub invariant_of-self-in_err-push : goal.invariant_of-self-in_err-push
invariant_of-self-in_err-push c =
    let bags : Lists = map numbers_of c.self.inside.list.items in
    let noted = all_noted_stay (numbers_digest 0) [] bags c.self.inside.places c.add.new.self c.with_numbers-digest.result c.len.result c.in_ok-add.ensures.noted c.self.invariant.1 in
    rw c.in_err-push.ensures.items (c.self.invariant.0, noted)

pub invariant_of-self-2 : goal.invariant_of-self-2
invariant_of-self-2 c =
    let list = c.self.inside.list.items in
    let bags : Lists = map numbers_of list in
    let bag = c.args.bag.items in
    let places = c.self.inside.places in
    let digest : c.with_numbers-digest.result ≡ numbers_digest 0 bag = c.with_numbers-digest.ensures ∙ ap (numbers_digest 0) c.deref.ensures.value in
    let count : c.len.result ≡ length bags = c.len.ensures ∙ (c.self.inside.list.ok.0 ∙ sym (mapped_length numbers_of list)) in
    let noted = rw (digest, count) at c.in_ok-add.ensures.noted in
    let told = rw (c.deref-2.ensures.value, c.of.ensures, c.deref-3.ensures.value, digest) at c.stand_at.ensures in
    let new = new_bag bags places bag c.self.invariant.1 (λ s. true≢false (sym (told.1 s) ∙ c.if-stand_at.false)) in
    rw (c.in_ok-push.ensures.items, mapped_pushed numbers_of list c.args.bag)
    (kept_more bags bag c.self.invariant.0 c.requires new, all_noted_more (numbers_digest 0) [] bags bag places c.add.new.self noted c.self.invariant.1)
